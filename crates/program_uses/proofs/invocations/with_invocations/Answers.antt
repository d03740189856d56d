use Rattle.std.proofs.Common.{◌≡◌, ◌∙◌, ap, map, option_map}
use Rattle.osc_base.specs.FaultRows.{first_from}
use Rattle.expr_nodes.specs.type_heads.Table.{all_types}
use Rattle.expr_nodes.specs.type_heads.Types.{Types}
use Rattle.program_calls.specs.composition.Uses.{invocation_row}
use Rattle.program_uses.specs.InvokedTypes.{AreInvoked, invoked_do}
use Rattle.program_uses.specs.SeenTexts.{Tells}
use Rattle.program_fields.specs.SeenFields.{seen_do}
use Rattle.program_uses.proofs.InvokedSteps.{are_invoked}
use Rattle.program_uses.proofs.RowSteps.{if_ok}
use Rattle.program_uses.proofs.invocations.with_invocations.Goals as goal

pub returns : goal.returns
returns c =
    let table = c.args.types.now.table in
    if_ok (λ f. (ts : Types) → Tells ts c.args.types.now c.args.texts.now → AreInvoked ts (record { rows = c.in_ok-rows.rows }) →
    f ≡ first_from c.args.first (map (invocation_row ts) (all_types ts.table.heads)))
    (λ f. (ts : Types) → Tells ts c.args.types.now c.args.texts.now → f ≡ first_from c.args.first (map (invocation_row ts) (all_types ts.table.heads)))
    (λ f is ts told. is ts told (are_invoked ts table c.args.texts.now.dos.items c.in_ok-rows.rows.items told.table told.texts.do_told
    (c.in_ok-rows.ensures ∙ ap (map (λ d. invoked_do table (option_map seen_do d))) c.as_slice.ensures.value)))
    c.with_returning.result c.with_returning.ensures
