use Rattle.program_calls.proofs.CalleeNames.{owned_last}
use Rattle.program_calls.proofs.callees.callee_of.Goals as goal

pub returns-in-len1-up : goal.returns-in-len1-up
returns-in-len1-up c = owned_last c.args.head.now c.args.names.now c.name-item.result c.in-len1-up.len_at_least c.name-item.is
