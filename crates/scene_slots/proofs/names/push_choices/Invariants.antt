use Rattle.std.proofs.Common.{◌≡◌, ◌++◌, take}
use Rattle.scene_slots.specs.NameRows.{choice_names}
use Rattle.scene_slots.proofs.names.push_choices.Given as goal

abbrev pub invariant-choices : goal.invariant-choices
invariant-choices l = l.names ≡ l.fn.names ++ choice_names (take l.choice-index l.choices)
