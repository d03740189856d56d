use Rattle.std.proofs.Common.{◌≡◌, ◌∙◌, sym, subst, arith, length, [], List, ℕ}
use Rattle.bound_trail.specs.History.{present}
use Rattle.wake_ring.specs.Order.{AllBelow}
use Rattle.box_eval.proofs.ReadBounds.{read_below}
use Rattle.seeded_search.specs.Listed.{slots_at}
use Rattle.seeded_search.proofs.SlotLists.{slots_below}
use Rattle.seeded_search.proofs.Turnings.{retired}
use Rattle.seeded_search.proofs.Wakings.{list_at}
use Rattle.seeded_search.proofs.Working.{rule_there, all_fit, can_judge}
use Rattle.seeded_search.proofs.retiring.retire_one.Goals as goal

pub is_fixed-requires : goal.is_fixed-requires
is_fixed-requires c =
    let r = rule_there c.args.task.now.flat.now.rules c.args.number c.requires.number in
    let slots : c.as_slice-slots.result.now ≡ slots_at c.args.task.now.lists.now c.args.number =
    c.as_slice-slots.ensures ∙ (c.index.ensures ∙ list_at c.args.task.now.lists.now.slots.items c.args.number c.index.result.now [] (omega (arith, c.requires.number, c.requires.runs.roomy.listed.slots.long))) in
    let can = can_judge c.args.task.now c.args.work.now c.args.trail.now c.args.ring.now c.args.ring.now.items c.requires.runs c.args.number r.0 r.1 in
    subst (λ (xs : List ℕ). AllBelow (length (present c.args.trail.now)) xs) (sym slots)
    (slots_below r.0 (slots_at c.args.task.now.lists.now c.args.number) (length (present c.args.trail.now)) (c.requires.runs.roomy.listed.slots.each c.args.number r.0 r.1)
    (λ slot reads. omega (arith, read_below r.0 slot reads, can.slots)))

pub verdict_here-requires-clause-fit : goal.verdict_here-requires-clause-fit
verdict_here-requires-clause-fit c = all_fit c.args.task.now c.args.work.now c.args.trail.now c.args.ring.now c.args.ring.now.items c.requires.runs

pub returns-in-True : goal.returns-in-True
returns-in-True c =
    let r = rule_there c.args.task.now.flat.now.rules c.args.number c.requires.number in
    retired c.args.task.now c.args.work.now c.args.trail.now c.args.ring.now c.args.number r.0 c.retire.new.self c.remove.new.self c.requires.runs r.1
    (sym (c.verdict_here.ensures r.0 r.1) ∙ c.in-True.is) c.retire.ensures c.remove.ensures.removed
