use Rattle.expr_nodes.specs.Operators.{comparison_rows}
use Rattle.expr_nodes.specs.Seen.{seen_part}
use Rattle.typed_parts.proofs.Settled.{refused, settled}
use Rattle.expr_operators.proofs.relations.comparison.Goals as goal

pub returns-in-Some-clause-typed : goal.returns-in-Some-clause-typed
returns-in-Some-clause-typed c = refused (comparison_rows c.args.place c.args.sign (seen_part c.args.left) (seen_part c.args.right)) _ c.in-Some.fault c.in-Some.ensures

pub returns-in_ok-comparison_of-in-None-clause-typed : goal.returns-in_ok-comparison_of-in-None-clause-typed
returns-in_ok-comparison_of-in-None-clause-typed c = settled (comparison_rows c.args.place c.args.sign (seen_part c.args.left) (seen_part c.args.right)) _ _ c.in-None.ensures c.in_ok-comparison_of-in-None.ensures
