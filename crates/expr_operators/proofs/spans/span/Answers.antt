use Rattle.expr_nodes.specs.Operators.{span_rows}
use Rattle.expr_nodes.specs.Seen.{seen_part}
use Rattle.typed_parts.proofs.Settled.{refused, settled}
use Rattle.expr_operators.proofs.spans.span.Goals as goal

pub returns-in-Some-clause-typed : goal.returns-in-Some-clause-typed
returns-in-Some-clause-typed c = refused (span_rows (seen_part c.args.low) (seen_part c.args.high)) _ c.in-Some.fault c.in-Some.ensures

pub returns-in_ok-span_of-in-None-clause-typed : goal.returns-in_ok-span_of-in-None-clause-typed
returns-in_ok-span_of-in-None-clause-typed c = settled (span_rows (seen_part c.args.low) (seen_part c.args.high)) _ _ c.in-None.ensures c.in_ok-span_of-in-None.ensures
