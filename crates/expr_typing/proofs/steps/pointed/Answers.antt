use Rattle.std.proofs.Common.{◌∙◌, ap}
use Rattle.expr_nodes.specs.Names.{dot_rows, dot_typed}
use Rattle.expr_nodes.specs.Seen.{seen_part}
use Rattle.expr_nodes.specs.Typing.{typed, expr_rows}
use Rattle.typed_parts.proofs.StepFaults.{one_fault}
use Rattle.expr_typing.proofs.steps.pointed.Goals as goal

pub returns : goal.returns
returns c = λ sc a h. (
  one_fault (λ t. dot_rows c.args.types.now.table t c.args.name.now) (seen_part c.args.head.typed) (typed c.args.types.now.table sc a) (expr_rows c.args.types.now.table sc a)
      c.in_ok-own.own.fault c.args.head.fault c.with_part.result.fault h.1 c.in_ok-own.ensures.fault h.0 c.with_part.ensures.fault,
  ap seen_part c.with_part.ensures.typed ∙ c.in_ok-own.ensures.typed ∙ ap (λ t. dot_typed c.args.types.now.table t c.args.name.now) h.1,
)
