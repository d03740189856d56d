use Rattle.std.proofs.Common.{sym}
use Rattle.expr_nodes.specs.Operators.{part_rows}
use Rattle.expr_nodes.specs.Seen.{seen_part}
use Rattle.typed_parts.proofs.Firsts.{first_append}
use Rattle.expr_operators.proofs.spans.span_fault.Goals as goal

pub returns : goal.returns
returns c = rw (c.least.ensures, c.part_fault.ensures, c.part_fault-2.ensures) (sym (first_append (part_rows (seen_part c.args.low.now)) (part_rows (seen_part c.args.high.now))))
