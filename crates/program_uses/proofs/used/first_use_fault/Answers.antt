use Rattle.std.proofs.Common.{◌≡◌, map}
use Rattle.osc_base.specs.FaultRows.{first_fault}
use Rattle.expr_nodes.specs.type_heads.Bodied.{seen_body}
use Rattle.expr_nodes.specs.type_heads.Types.{Types}
use Rattle.program_fields.specs.type_members.Listed.{lists_of}
use Rattle.program_calls.specs.composition.Uses.{use_rows}
use Rattle.program_uses.specs.SeenTexts.{Tells}
use Rattle.program_uses.proofs.RowSteps.{if_ok}
use Rattle.program_uses.proofs.used.first_use_fault.Goals as goal

pub returns : goal.returns
returns c =
    if_ok (λ f. (ts : Types) → Tells ts c.args.types.now c.in_ok-texts.texts → f ≡ first_fault (use_rows ts))
    (λ f. (ts : Types) → c.args.types.now.table ≡ ts.table → c.args.library ≡ ts.library → map seen_body c.args.bodies.now ≡ ts.bodies → lists_of c.args.lists.now ≡ ts.members → f ≡ first_fault (use_rows ts))
    (λ f is ts table library bodies same. is ts (record { table = table; texts = c.in_ok-texts.ensures ts library bodies same }))
    c.first_of_all.result c.first_of_all.ensures
