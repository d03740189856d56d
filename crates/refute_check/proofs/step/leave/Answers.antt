use Rattle.std.proofs.Common.{sym, ◌∙◌}
use Rattle.refute_check.proofs.Walks.{left_room}
use Rattle.refute_check.proofs.step.leave.Goals as goal

pub set_second-requires-clause-room : goal.set_second-requires-clause-room
set_second-requires-clause-room c = left_room c.args.trail.now c.undo_to.new.self c.args.stack.now.items c.in-Some.pending c.undo_to.ensures c.requires.wait c.requires.few
    (sym c.pop.ensures.top ∙ c.in-Some.is)
