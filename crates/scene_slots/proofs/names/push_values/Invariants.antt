use Rattle.std.proofs.Common.{◌≡◌, ◌++◌, take}
use Rattle.scene_slots.specs.NameRows.{value_names}
use Rattle.scene_slots.proofs.names.push_values.Given as goal

abbrev pub invariant-values : goal.invariant-values
invariant-values l = l.names ≡ l.fn.names ++ value_names (take l.value-index l.values)
