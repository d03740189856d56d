use Rattle.seeded_search.proofs.Tries.{shut_after}
use Rattle.seeded_search.proofs.course.close_by_sum.Goals as goal

pub leave-requires : goal.leave-requires
leave-requires c = shut_after c.args.task.now c.args.work.now c.args.trail.now c.args.ring.now c.requires c.picks-picks.result.now c.may_add.new.self c.add.new.self c.may_add.ensures.same c.add.result c.if-not-add.false
    c.add.ensures.added (c.may_add.ensures.may c.if-not-may_add.false) c.add.ensures.few
