use Rattle.expr_nodes.specs.Operators.{not_rows}
use Rattle.expr_nodes.specs.Seen.{seen_part}
use Rattle.typed_parts.proofs.Settled.{refused}
use Rattle.expr_operators.proofs.truths.not.Goals as goal

pub returns-in-Some-clause-typed : goal.returns-in-Some-clause-typed
returns-in-Some-clause-typed c = refused (not_rows c.args.place (seen_part c.args.part)) _ c.in-Some.fault c.in-Some.ensures
