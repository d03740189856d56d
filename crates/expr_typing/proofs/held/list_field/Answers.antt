use Rattle.std.proofs.Common.{◌≡◌, ◌∙◌, ap, subst, Some}
use Rattle.std.specs.Prelude.{IfOk}
use Rattle.expr_nodes.specs.type_heads.Table.{form}
use Rattle.expr_nodes.specs.Seen.{seen}
use Rattle.expr_nodes.specs.SeenNames.{list_in}
use Rattle.expr_typing.proofs.Forms.{list_bare}
use Rattle.expr_typing.proofs.held.list_field.Goals as goal

pub returns : goal.returns
returns c =
    subst (λ n. IfOk c.list_of.result (λ t. Some (seen t) ≡ n))
    (ap (λ f. list_in c.args.place c.args.path.now c.args.of f c.args.count) c.kind.ensures
    ∙ list_bare c.args.place c.args.path.now c.args.of (form c.args.types.now.table.heads c.args.of) c.args.count)
    c.list_of.ensures
