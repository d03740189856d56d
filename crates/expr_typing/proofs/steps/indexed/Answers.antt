use Rattle.std.proofs.Common.{◌∙◌, ap}
use Rattle.dsl_tree.specs.Views.{expr_tree}
use Rattle.expr_nodes.specs.Operators.{index_rows, index_typed}
use Rattle.expr_nodes.specs.Seen.{seen_part}
use Rattle.expr_nodes.specs.Typing.{typed, expr_rows}
use Rattle.typed_parts.proofs.StepFaults.{two_faults}
use Rattle.expr_typing.proofs.steps.indexed.Goals as goal

pub returns : goal.returns
returns c = λ table sc a h k. (
  two_faults (λ t n. index_rows c.args.place t (expr_tree c.args.number.now)) (seen_part c.args.head.typed) (seen_part c.args.known.typed) (typed table sc a) (typed table sc (expr_tree c.args.number.now))
      (expr_rows table sc a) (expr_rows table sc (expr_tree c.args.number.now))
      c.in_ok-own.own.fault c.args.head.fault c.args.known.fault c.with_parts.result.fault h.1 k.1 c.in_ok-own.ensures.fault h.0 k.0 c.with_parts.ensures.fault,
  ap seen_part c.with_parts.ensures.typed ∙ c.in_ok-own.ensures.typed ∙ ap (λ t. index_typed t (expr_tree c.args.number.now)) h.1,
)
