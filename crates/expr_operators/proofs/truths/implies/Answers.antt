use Rattle.expr_nodes.specs.Operators.{logic_rows}
use Rattle.expr_nodes.specs.Seen.{seen_part}
use Rattle.typed_parts.proofs.Settled.{refused}
use Rattle.expr_operators.proofs.truths.implies.Goals as goal

pub returns-in-Some-clause-typed : goal.returns-in-Some-clause-typed
returns-in-Some-clause-typed c = refused (logic_rows c.args.place (seen_part c.args.left) (seen_part c.args.right)) _ c.in-Some.fault c.in-Some.ensures
