use Rattle.std.proofs.Common.{◌≡◌, None, flat_map, map}
use Rattle.osc_base.specs.FaultRows.{first_fault, first_from}
use Rattle.expr_nodes.specs.type_heads.Table.{all_types}
use Rattle.expr_nodes.specs.type_heads.Types.{Types}
use Rattle.program_calls.specs.composition.Uses.{invocation_row, text_rows, use_rows}
use Rattle.program_uses.specs.SeenTexts.{Tells}
use Rattle.program_uses.proofs.RowSteps.{if_ok, two}
use Rattle.program_uses.proofs.used.first_of_all.Goals as goal

pub returns : goal.returns
returns c =
    if_ok (λ f. (ts : Types) → Tells ts c.args.types.now c.args.texts.now → f ≡ first_from c.in_ok-written.written (map (invocation_row ts) (all_types ts.table.heads)))
    (λ f. (ts : Types) → Tells ts c.args.types.now c.args.texts.now → f ≡ first_fault (use_rows ts))
    (λ f is ts told. two (flat_map (text_rows ts) (all_types ts.table.heads)) (map (invocation_row ts) (all_types ts.table.heads)) None c.in_ok-written.written f
    (c.in_ok-written.ensures ts told) (is ts told))
    c.with_invocations.result c.with_invocations.ensures
