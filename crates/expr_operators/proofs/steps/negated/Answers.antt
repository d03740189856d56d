use Rattle.std.proofs.Common.{◌∙◌, ap}
use Rattle.expr_nodes.specs.Operators.{not_rows, not_typed}
use Rattle.expr_nodes.specs.Seen.{seen_part}
use Rattle.expr_nodes.specs.Typing.{typed, expr_rows}
use Rattle.typed_parts.proofs.StepFaults.{one_fault}
use Rattle.expr_operators.proofs.steps.negated.Goals as goal

pub returns : goal.returns
returns c = λ table sc a h. (
  one_fault (not_rows c.args.place) (seen_part c.args.part.typed) (typed table sc a) (expr_rows table sc a)
      c.in_ok-own.own.fault c.args.part.fault c.with_part.result.fault h.1 c.in_ok-own.ensures.fault h.0 c.with_part.ensures.fault,
  ap seen_part c.with_part.ensures.typed ∙ c.in_ok-own.ensures.typed ∙ ap (not_typed c.args.place) h.1,
)
