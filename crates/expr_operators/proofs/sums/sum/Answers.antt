use Rattle.expr_nodes.specs.Operators.{sum_rows}
use Rattle.expr_nodes.specs.Seen.{seen_part}
use Rattle.typed_parts.proofs.Settled.{refused, settled, sum_narrow}
use Rattle.expr_operators.proofs.sums.sum.Goals as goal

pub returns-in-Some-clause-typed : goal.returns-in-Some-clause-typed
returns-in-Some-clause-typed c = refused (sum_rows c.args.place (seen_part c.args.left) (seen_part c.args.right)) _ c.in-Some.fault c.in-Some.ensures

pub returns-in_ok-sum_of-in-None-clause-typed : goal.returns-in_ok-sum_of-in-None-clause-typed
returns-in_ok-sum_of-in-None-clause-typed c = settled (sum_rows c.args.place (seen_part c.args.left) (seen_part c.args.right)) _ _ c.in-None.ensures (c.in_ok-sum_of-in-None.ensures (sum_narrow c.args.place (seen_part c.args.left) (seen_part c.args.right) c.in-None.ensures))
