use Rattle.std.proofs.Common.{◌∙◌, ap}
use Rattle.expr_nodes.specs.type_heads.Table.{form, is_enum}
use Rattle.expr_typing.proofs.Forms.{enum_bare}
use Rattle.expr_typing.proofs.others.is_enum.Goals as goal

pub returns : goal.returns
returns c = c.is_enum_kind.ensures ∙ ap is_enum c.kind.ensures ∙ enum_bare (form c.args.types.now.table.heads c.args.of)
