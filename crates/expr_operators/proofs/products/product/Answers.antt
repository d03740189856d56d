use Rattle.expr_nodes.specs.Operators.{product_rows}
use Rattle.expr_nodes.specs.Seen.{seen_part}
use Rattle.typed_parts.proofs.Settled.{refused, settled, product_limits, product_narrow}
use Rattle.expr_operators.proofs.products.product.Goals as goal

pub returns-in-Some-clause-typed : goal.returns-in-Some-clause-typed
returns-in-Some-clause-typed c = refused (product_rows c.args.place (seen_part c.args.left) (seen_part c.args.right)) _ c.in-Some.fault c.in-Some.ensures

pub returns-in_ok-product_of-in-None-clause-typed : goal.returns-in_ok-product_of-in-None-clause-typed
returns-in_ok-product_of-in-None-clause-typed c = settled (product_rows c.args.place (seen_part c.args.left) (seen_part c.args.right)) _ _ c.in-None.ensures
    (c.in_ok-product_of-in-None.ensures (product_limits c.args.place (seen_part c.args.left) (seen_part c.args.right) c.in-None.ensures) (product_narrow c.args.place (seen_part c.args.left) (seen_part c.args.right) c.in-None.ensures))
