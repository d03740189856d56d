use Rattle.expr_nodes.proofs.SeenNodes.{any_listed}
use Rattle.expr_operators.proofs.within.has_part_apart.Goals as goal

pub returns-in-Listed : goal.returns-in-Listed
returns-in-Listed c = any_listed c.args.right.now c.in-Listed.info c.in-Listed.is_field c.in-Listed.items c.as_slice.result.now c.in-Listed.is c.as_slice.ensures _ c.is_any_apart.result c.is_any_apart.ensures
