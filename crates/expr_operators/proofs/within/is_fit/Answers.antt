use Rattle.expr_nodes.specs.Seen.{seen}
use Rattle.expr_nodes.proofs.SeenNodes.{fits_listed}
use Rattle.expr_operators.proofs.within.is_fit.Goals as goal

pub returns-in-Listed : goal.returns-in-Listed
returns-in-Listed c = fits_listed c.args.right.now c.in-Listed.info c.in-Listed.is_field c.in-Listed.items c.as_slice.result.now c.in-Listed.is c.as_slice.ensures (seen c.args.left.now) c.is_any_unlike.result c.is_any_unlike.ensures
