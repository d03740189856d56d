use Rattle.std.proofs.Common.{◌∙◌, ap}
use Rattle.dsl_tree.specs.ExprTree.{ExprTree}
use Rattle.work_parts.specs.Arguments.{object_scope, reads_one}
use Rattle.work_parts.proofs.arguments.is_parameter.Goals as goal

pub returns : goal.returns
returns c =
    c.is_read.ensures
    ∙ ap reads_one (c.in_ok-field.ensures (object_scope c.args.of) (ExprTree.It c.args.place) (c.in_ok-object.ensures.fault, c.in_ok-object.ensures.typed)).1
