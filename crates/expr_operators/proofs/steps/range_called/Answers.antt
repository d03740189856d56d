use Rattle.std.proofs.Common.{◌∙◌, ap, ap₂}
use Rattle.expr_nodes.specs.Operators.{span_rows, span_typed}
use Rattle.expr_nodes.specs.Seen.{seen_part}
use Rattle.expr_nodes.specs.Typing.{typed, expr_rows}
use Rattle.typed_parts.proofs.StepFaults.{two_faults}
use Rattle.expr_operators.proofs.steps.range_called.Goals as goal

pub returns : goal.returns
returns c = λ table sc a b h k. (
  two_faults (span_rows) (seen_part c.args.left.typed) (seen_part c.args.right.typed) (typed table sc a) (typed table sc b) (expr_rows table sc a) (expr_rows table sc b)
      c.in_ok-own.own.fault c.args.left.fault c.args.right.fault c.with_parts.result.fault h.1 k.1 c.in_ok-own.ensures.fault h.0 k.0 c.with_parts.ensures.fault,
  ap seen_part c.with_parts.ensures.typed ∙ c.in_ok-own.ensures.typed ∙ ap₂ (span_typed c.args.place) h.1 k.1,
)
