-- What conditions by reference stand for.
use Rattle.std.specs.Prelude.{List, map}
use Rattle.composition.specs.declared.guard.Guard.{Guard}
use Rattle.scene_conditions.specs.declared.condition.Condition.{Condition}
use Rattle.scene_conditions.specs.declared.conditions.Conditions.{Conditions}

-- a condition
abbrev pub seen_condition : Condition → Guard
seen_condition (Condition.Choice phase member) = Guard.Choice phase.now member
seen_condition (Condition.Value path value) = Guard.Value path.now value

-- the conditions in order
abbrev pub seen_conditions : Conditions → List Guard
seen_conditions c = map seen_condition c.keys.keys
