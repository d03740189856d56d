use Rattle.std.proofs.Common.{sym}
use Rattle.text_constraints.proofs.Relations.{no_relation}
use Rattle.text_constraints.proofs.targets.left_of.Goals as goal

pub returns-in_default : goal.returns-in_default
returns-in_default c = sym (no_relation c.args.expr.now c.in_default.not-Relation)
