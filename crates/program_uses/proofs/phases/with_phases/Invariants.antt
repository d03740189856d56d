use Rattle.std.proofs.Common.{◌≡◌, drop, flat_map, map}
use Rattle.osc_base.specs.FaultRows.{first_from}
use Rattle.expr_nodes.specs.type_heads.Types.{Types}
use Rattle.program_calls.specs.PlacedPhases.{seen_phase}
use Rattle.program_calls.specs.SeenLabels.{do_labels, seen_labels}
use Rattle.program_uses.specs.PhaseRows.{placed_rows}
use Rattle.program_uses.specs.SeenTexts.{Tells}
use Rattle.program_uses.proofs.phases.with_phases.Given as goal

abbrev pub invariant-loop-placed : goal.invariant-loop-placed
invariant-loop-placed l = (ts : Types) → Tells ts l.types l.texts → seen_labels l.labels ≡ do_labels ts l.holder →
    first_from l.fn.first (flat_map (placed_rows ts l.holder) (map seen_phase l.placed-items))
    ≡ first_from l.fault (flat_map (placed_rows ts l.holder) (map seen_phase (drop l.placed-index l.placed-items)))
