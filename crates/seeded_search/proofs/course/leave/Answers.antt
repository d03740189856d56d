use Rattle.seeded_search.proofs.Decidings.{is_left, is_refuted}
use Rattle.seeded_search.proofs.course.leave.Goals as goal

pub go_back-requires : goal.go_back-requires
go_back-requires c = is_left c.args.task.now c.args.work.now c.args.trail.now c.args.ring.now c.requires c.take_decision.new.self c.in-Some.decision c.in-Some.ensures

pub returns-in-None : goal.returns-in-None
returns-in-None c = is_refuted c.args.task.now c.args.work.now c.args.trail.now c.args.ring.now c.requires c.take_decision.new.self c.undo_to.new.self c.in-None.ensures.0 c.in-None.ensures.1 c.undo_to.ensures
