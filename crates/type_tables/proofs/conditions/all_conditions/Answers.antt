use Rattle.std.proofs.Common.{◌∙◌, sym, ap, map}
use Rattle.std.proofs.lemmas.Result.{IfOk-weaker}
use Rattle.std.specs.List.{list_all}
use Rattle.type_members.specs.type_heads.Bodied.{seen_body}
use Rattle.type_members.specs.type_heads.Table.{all_types}
use Rattle.type_members.specs.Listed.{lists_of, seen_row}
use Rattle.type_members.specs.Shared.{fronts_in}
use Rattle.type_tables.specs.Looked.{have_types}
use Rattle.type_tables.proofs.DeclaredTypes.{conditions_are, lists_typed}
use Rattle.type_tables.proofs.conditions.all_conditions.Goals as goal

pub returns-then-all_have_types : goal.returns-then-all_have_types
returns-then-all_have_types c =
    let heads = c.args.heads.now in
    let rows = c.args.lists.now.rows.items in
    IfOk-weaker c.named_conditions.result _ _
    (λ all is. is ∙ conditions_are heads (map seen_body c.args.bodies.now) c.args.fields.now (lists_of c.args.lists.now) c.requires
    (lists_typed heads (map seen_row rows) (fronts_in rows) c.args.lists.now.spans.items
    (sym (c.all_have_types.ensures ∙ ap (λ rs. list_all (have_types heads) (map seen_row rs)) c.rows.ensures) ∙ c.if-all_have_types.true))
    (all_types heads))
    c.named_conditions.ensures
