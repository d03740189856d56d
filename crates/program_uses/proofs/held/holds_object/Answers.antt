use Rattle.std.proofs.Common.{◌∙◌, ap}
use Rattle.expr_nodes.specs.type_heads.Table.{form, is_object}
use Rattle.program_uses.proofs.BareForms.{object_bare}
use Rattle.program_uses.proofs.held.holds_object.Goals as goal

pub returns : goal.returns
returns c = c.is_object_kind.ensures ∙ ap is_object c.kind.ensures ∙ object_bare (form c.args.types.now.table.heads c.args.of)
