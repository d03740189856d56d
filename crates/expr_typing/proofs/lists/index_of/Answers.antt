use Rattle.std.proofs.Common.{sym}
use Rattle.expr_typing.proofs.Indexes.{no_index}
use Rattle.expr_typing.proofs.lists.index_of.Goals as goal

pub returns-in_default : goal.returns-in_default
returns-in_default c = sym (no_index c.args.index.now c.in_default.not-Number)
