use Rattle.std.proofs.Common.{sym}
use Rattle.program_uses.proofs.ExprKinds.{no_relation}
use Rattle.program_uses.proofs.expr_parts.relation_left.Goals as goal

pub returns-in_default : goal.returns-in_default
returns-in_default c = sym (no_relation c.args.expr.now c.in_default.not-Relation)
