use Rattle.std.proofs.Common.{◌≡◌, ◌∙◌, ◌-◌, ◌++◌, [], length, ap, sym, arith}
use Rattle.type_heads.specs.Members.{has}
use Rattle.type_heads.specs.Cycles.{reached}
use Rattle.fault_sets.proofs.FreshNumbers.{nat_eq_is}
use Rattle.fault_sets.proofs.Rounds.{round_more, no_round, none_of, settled}
use Rattle.fault_sets.proofs.reach.reached.Goals as goal

pub loop-round-init : goal.loop-round-init
loop-round-init g c =
    let e : c.args.rounds ≡ c.args.rounds - 0 = omega arith in
    record {
      has = λ n. c.requires n ∙ ap (λ fs. has n (fs ++ c.args.start.items)) (sym c.new-found.ensures.items);
      rest = ap (λ k. reached k (g.S.Steps.next c.args.steps.now) [] c.args.start.items) e
          ∙ ap (λ fs. reached (c.args.rounds - 0) (g.S.Steps.next c.args.steps.now) fs c.args.start.items) (sym c.new-found.ensures.items);
    }

pub loop-round-preserved : goal.loop-round-preserved
loop-round-preserved g c = round_more (g.S.Steps.next c.args.steps.now) c.args.rounds c.loop-round._round (reached c.args.rounds (g.S.Steps.next c.args.steps.now) [] c.args.start.items)
    c.loop-round.met c.all_fresh.new.met c.loop-round.found.items c.push_types.new.into.items c.loop-round.new.items c.in_ok-new.new.items c.in_ok-next.next.items
    c.as_slice.result.now c.as_slice-in-loop-round.result.now c.as_slice-in-loop-round-2.result.now
    c.loop-round-test.true c.as_slice.ensures.value c.in_ok-next.ensures c.as_slice-in-loop-round.ensures.value c.in_ok-push_types.ensures c.as_slice-in-loop-round-2.ensures.value
    c.in_ok-new.ensures c.loop-round.invariant

pub returns-then-is_empty : goal.returns-then-is_empty
returns-then-is_empty g c =
    let none : length c.loop-round.new.items ≡ 0 = omega (arith, c.loop-round.new.ok.0, nat_eq_is _ 0 (sym c.is_empty.ensures ∙ c.if-is_empty.true)) in
    sym (c.loop-round.invariant.rest
    ∙ ap (λ ns. reached (c.args.rounds - c.loop-round._round) (g.S.Steps.next c.args.steps.now) c.loop-round.found.items ns) (none_of c.loop-round.new.items none)
    ∙ settled (g.S.Steps.next c.args.steps.now) (c.args.rounds - c.loop-round._round) c.loop-round.found.items)

pub returns : goal.returns
returns g c = sym (no_round (g.S.Steps.next c.args.steps.now) c.args.rounds c.loop-round._round c.loop-round.found.items c.loop-round.new.items _ c.loop-round-test.false c.loop-round.invariant.rest)
