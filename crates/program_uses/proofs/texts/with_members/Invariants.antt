use Rattle.std.proofs.Common.{◌≡◌, drop, flat_map, map}
use Rattle.osc_base.specs.FaultRows.{first_from}
use Rattle.expr_nodes.specs.type_heads.Bodied.{seen_written}
use Rattle.expr_nodes.specs.type_heads.Types.{Types}
use Rattle.program_calls.specs.SeenLabels.{do_labels, seen_labels}
use Rattle.program_uses.specs.SeenTexts.{Tells, written_rows}
use Rattle.program_uses.proofs.texts.with_members.Given as goal

abbrev pub invariant-loop-written : goal.invariant-loop-written
invariant-loop-written l = (ts : Types) → Tells ts l.types l.texts → seen_labels l.labels ≡ do_labels ts l.of →
    first_from l.fn.first (flat_map (written_rows ts l.of) (map seen_written l.members)) ≡ first_from l.fault (flat_map (written_rows ts l.of) (map seen_written (drop l.written-index l.members)))
