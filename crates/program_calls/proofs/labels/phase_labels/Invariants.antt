use Rattle.std.proofs.Common.{◌≡◌, ◌++◌, drop, map}
use Rattle.program_calls.specs.PlacedPhases.{seen_phase}
use Rattle.program_calls.specs.SeenLabels.{labels_here, seen_phase_label}
use Rattle.program_calls.proofs.labels.phase_labels.Given as goal

abbrev pub invariant-loop-placed : goal.invariant-loop-placed
invariant-loop-placed l =
    map seen_phase_label l.labels.items ++ labels_here l.types.table l.holder (map seen_phase (drop l.placed-index l.phases))
    ≡ labels_here l.types.table l.holder (map seen_phase l.phases)
