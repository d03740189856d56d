use Rattle.std.proofs.Common.{◌∙◌, ap}
use Rattle.expr_nodes.specs.Operators.{group_typed}
use Rattle.expr_operators.proofs.steps.grouped.Goals as goal

pub returns : goal.returns
returns c = λ table sc a h. (h.0, c.in_ok-group.ensures ∙ ap (group_typed c.args.place) h.1)
