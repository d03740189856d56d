use Rattle.std.proofs.Common.{sym}
use Rattle.program_calls.proofs.NameForms.{no_name}
use Rattle.program_calls.proofs.name_exprs.name_of.Goals as goal

pub returns-in_default : goal.returns-in_default
returns-in_default c = sym (no_name c.args.expr.now c.in_default.not-Name)
