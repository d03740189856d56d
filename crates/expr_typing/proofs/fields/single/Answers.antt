use Rattle.std.proofs.Common.{◌∙◌, ap}
use Rattle.expr_nodes.specs.type_heads.Table.{form}
use Rattle.expr_nodes.specs.SeenNames.{single_in}
use Rattle.expr_typing.proofs.Forms.{single_bare}
use Rattle.expr_typing.proofs.fields.single.Goals as goal

pub returns : goal.returns
returns c =
    c.value_at.ensures
    ∙ ap (single_in c.args.place c.args.path c.args.of) c.kind.ensures
    ∙ single_bare c.args.place c.args.path c.args.of (form c.args.types.now.table.heads c.args.of)
