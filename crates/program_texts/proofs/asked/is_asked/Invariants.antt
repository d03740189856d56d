use Rattle.std.proofs.Common.{◌≡◌, drop, map}
use Rattle.std.specs.List.{list_any}
use Rattle.program_calls.specs.cond_inherit.Conditions.{same_condition}
use Rattle.program_calls.specs.cond_inherit.SubtypeConditions.{seen_condition}
use Rattle.program_texts.proofs.asked.is_asked.Given as goal

abbrev pub invariant-loop-other : goal.invariant-loop-other
invariant-loop-other l =
    list_any (same_condition (seen_condition l.condition)) (map seen_condition (drop l.other-index l.conditions)) ≡ list_any (same_condition (seen_condition l.condition)) (map seen_condition l.conditions)
