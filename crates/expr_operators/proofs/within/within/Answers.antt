use Rattle.expr_nodes.specs.Operators.{within_rows}
use Rattle.expr_nodes.specs.Seen.{seen_part}
use Rattle.typed_parts.proofs.Settled.{refused, settled}
use Rattle.expr_operators.proofs.within.within.Goals as goal

pub returns-in-Some-clause-typed : goal.returns-in-Some-clause-typed
returns-in-Some-clause-typed c = refused (within_rows c.args.place (seen_part c.args.left) (seen_part c.args.right)) _ c.in-Some.fault c.in-Some.ensures

pub returns-in_ok-within_of-in-None-clause-typed : goal.returns-in_ok-within_of-in-None-clause-typed
returns-in_ok-within_of-in-None-clause-typed c = settled (within_rows c.args.place (seen_part c.args.left) (seen_part c.args.right)) _ _ c.in-None.ensures c.in_ok-within_of-in-None.ensures
