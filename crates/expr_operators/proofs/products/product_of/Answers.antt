use Rattle.std.proofs.Common.{ap}
use Rattle.expr_nodes.specs.Seen.{seen, seen_part}
use Rattle.expr_operators.proofs.Pairs.{product_pair}
use Rattle.expr_operators.proofs.products.product_of.Goals as goal

pub returns-in-Some-right : goal.returns-in-Some-right
returns-in-Some-right c = product_pair (seen_part c.args.left) (seen_part c.args.right) (seen c.in-Some.left) (seen c.in-Some-right.right) c.product_pair.result
    (ap seen_part c.in-Some.is) (ap seen_part c.in-Some-right.is) c.product_pair.ensures
