use Rattle.std.proofs.Common.{◌≡◌, ◌++◌, drop, map}
use Rattle.program_calls.specs.cond_inherit.SubtypeConditions.{seen_condition}
use Rattle.program_texts.specs.SeenConditions.{guard_of}
use Rattle.program_texts.proofs.conditions.guards_of.Given as goal

abbrev pub invariant-loop-condition : goal.invariant-loop-condition
invariant-loop-condition l = l.guards ++ map (guard_of l.object) (map seen_condition (drop l.condition-index l.conditions)) ≡ map (guard_of l.object) (map seen_condition l.conditions)
