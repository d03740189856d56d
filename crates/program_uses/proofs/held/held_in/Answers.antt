use Rattle.std.proofs.Common.{◌∙◌, ap}
use Rattle.expr_nodes.specs.type_heads.Table.{form}
use Rattle.expr_nodes.specs.Kinds.{kind_of}
use Rattle.expr_nodes.specs.Names.{per_of}
use Rattle.expr_nodes.specs.Sizes.{field_size}
use Rattle.program_uses.proofs.BareForms.{kind_bare, per_bare}
use Rattle.program_uses.proofs.held.held_in.Goals as goal

pub returns-clause-kind : goal.returns-clause-kind
returns-clause-kind c = c.held_as.ensures.kind ∙ ap (kind_of c.args.of) c.kind.ensures ∙ kind_bare c.args.of (form c.args.types.now.table.heads c.args.of)

pub returns-clause-size : goal.returns-clause-size
returns-clause-size c = c.held_as.ensures.size ∙ ap (λ f. field_size (per_of f)) c.kind.ensures ∙ ap field_size (per_bare (form c.args.types.now.table.heads c.args.of))
