use Rattle.std.proofs.Common.{◌≡◌, drop, flat_map}
use Rattle.osc_base.specs.FaultRows.{first_from}
use Rattle.expr_nodes.specs.type_heads.Table.{all_types, numbers_from}
use Rattle.expr_nodes.specs.type_heads.Types.{Types}
use Rattle.program_calls.specs.composition.Uses.{text_rows}
use Rattle.program_uses.specs.SeenTexts.{Tells}
use Rattle.program_uses.proofs.texts.with_texts.Given as goal

abbrev pub invariant-loop-number : goal.invariant-loop-number
invariant-loop-number l = (ts : Types) → Tells ts l.types l.texts →
    first_from l.fn.first (flat_map (text_rows ts) (all_types ts.table.heads)) ≡ first_from l.fault (flat_map (text_rows ts) (numbers_from l.number (drop l.number ts.table.heads)))
