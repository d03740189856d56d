use Rattle.std.proofs.Common.{◌∙◌, ap}
use Rattle.expr_nodes.specs.type_heads.Table.{form, is_behaviour}
use Rattle.expr_typing.proofs.Forms.{behaviour_bare}
use Rattle.expr_typing.proofs.names.is_behaviour.Goals as goal

pub returns : goal.returns
returns c = c.is_behaviour_kind.ensures ∙ ap is_behaviour c.kind.ensures ∙ behaviour_bare (form c.args.types.now.table.heads c.args.of)
