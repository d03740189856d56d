use Rattle.std.proofs.Common.{◌≡◌, ◌++◌, take}
use Rattle.scene_slots.specs.NameRows.{phase_names}
use Rattle.scene_slots.proofs.names.push_phases.Given as goal

abbrev pub invariant-phases : goal.invariant-phases
invariant-phases l = l.names ≡ l.fn.names ++ phase_names (take l.phase-index l.phases)
