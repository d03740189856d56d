use Rattle.std.proofs.Common.{◌≡◌, drop, map}
use Rattle.osc_base.specs.FaultRows.{first_from}
use Rattle.expr_nodes.specs.type_heads.Table.{all_types, numbers_from}
use Rattle.expr_nodes.specs.type_heads.Types.{Types}
use Rattle.program_calls.specs.composition.Uses.{invocation_row}
use Rattle.program_uses.specs.InvokedTypes.{AreInvoked}
use Rattle.program_uses.specs.SeenTexts.{Tells}
use Rattle.program_uses.proofs.invocations.with_returning.Given as goal

abbrev pub invariant-loop-number : goal.invariant-loop-number
invariant-loop-number l = (ts : Types) → Tells ts l.types l.texts → AreInvoked ts l.invoked →
    first_from l.fn.first (map (invocation_row ts) (all_types ts.table.heads)) ≡ first_from l.fault (map (invocation_row ts) (numbers_from l.number (drop l.number ts.table.heads)))
