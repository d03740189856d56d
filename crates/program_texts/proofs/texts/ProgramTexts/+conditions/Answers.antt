use Rattle.std.proofs.Common.{◌≡◌, ◌∙◌, ℕ, ◌<◌, ◌-◌, ◌++◌, Some, ap, arith, cond, nat_eq, option_map, sym}
use Rattle.program_calls.specs.cond_inherit.SubtypeConditions.{seen_condition}
use Rattle.program_texts.specs.Asked.{once_more, seen_kept, steps_done, IsGathered}
use Rattle.program_texts.specs.SeenConditions.{conditions_after}
use Rattle.program_texts.specs.SeenTexts.{types_in}
use Rattle.program_texts.proofs.AskedOnce.{gathered_always, gathered_done, gathered_each, gathered_end, gathered_last, gathered_more, gathered_none, gathered_nowhere, on_both}
use Rattle.program_texts.proofs.texts.ProgramTexts.+conditions.Goals as goal

pub gather-returns-then-steps-eq0 : goal.gather-returns-then-steps-eq0
gather-returns-then-steps-eq0 t c =
    let none : c.args.steps ≡ 0 = grind (arith, c.if-steps-eq0.true) in
    gathered_end (types_in c.args.self.now) c.args.of c.args.into.now c.args.steps c.args.under.now none

pub gather-loop-subtype-init : goal.gather-loop-subtype-init
gather-loop-subtype-init t c = gathered_none (types_in c.args.self.now) c.args.of c.args.into.now

pub gather-loop-subtype-preserved : goal.gather-loop-subtype-preserved
gather-loop-subtype-preserved t c =
    gathered_more (types_in c.args.self.now) c.args.of c.args.into.now c.loop-subtype.into c.gather_subtype.new.into (c.args.steps - 1) c.args.under.now c.loop-subtype.subtype-index c.subtype-item.result
    c.loop-subtype-test.true c.subtype-item.is c.loop-subtype.invariant c.in_ok-gather_subtype.ensures

pub gather-returns : goal.gather-returns
gather-returns t c =
    let some : 0 < c.args.steps = grind (arith, c.if-steps-eq0.false) in
    gathered_each (types_in c.args.self.now) c.args.of c.args.into.now c.loop-subtype.into c.args.steps c.args.under.now c.loop-subtype.subtype-index some c.loop-subtype-test.false c.loop-subtype.invariant

pub gather_field-returns-in-None : goal.gather_field-returns-in-None
gather_field-returns-in-None t c = gathered_nowhere (types_in c.args.self.now) c.args.of c.args.into.now c.args.steps c.args.name.now c.in-None.ensures

pub gather_subtype-returns-then-is_done : goal.gather_subtype-returns-then-is_done
gather_subtype-returns-then-is_done t c =
    gathered_done (types_in c.args.self.now) c.args.of c.args.into.now c.args.subtype c.args.steps (sym c.is_done.ensures ∙ c.if-is_done.true)

pub gather_subtype-returns-in_default : goal.gather_subtype-returns-in_default
gather_subtype-returns-in_default t c =
    gathered_always (types_in c.args.self.now) c.args.of c.args.into.now c.args.steps c.args.subtype
    (ap (option_map seen_condition) (sym c.in_default.is) ∙ c.in_ok-condition.ensures)

pub gather_subtype-returns : goal.gather_subtype-returns
gather_subtype-returns t c =
    on_both
    (seen_kept c.finish.new.self ≡ seen_kept c.gather_field.new.into ++ once_more (seen_kept c.gather_field.new.into) (seen_condition c.in-Some.condition))
    ((other : ℕ) → steps_done c.finish.new.self other ≡ cond (nat_eq c.args.subtype other) (Some c.args.steps) (steps_done c.gather_field.new.into other))
    (IsGathered (types_in c.args.self.now) c.args.of c.args.into.now c.finish.new.self (conditions_after c.args.steps (types_in c.args.self.now) c.args.of c.args.subtype))
    (λ kept done. gathered_last (types_in c.args.self.now) c.args.of c.args.into.now c.gather_field.new.into c.finish.new.self c.args.subtype c.args.steps (seen_condition c.in-Some.condition)
    c.as_str.result.now c.in_ok-gather_field.ensures c.as_str.ensures (ap (option_map seen_condition) (sym c.in-Some.is) ∙ c.in_ok-condition.ensures) kept done)
    c.finish.result c.finish.ensures.kept c.finish.ensures.done
