use Rattle.seeded_search.proofs.Turnings.{in_turn}
use Rattle.seeded_search.proofs.course.run_queue.Goals as goal

pub take_turn-requires-clause-runs : goal.take_turn-requires-clause-runs
take_turn-requires-clause-runs c =
    in_turn c.args.task.now c.loop-number.work c.loop-number.trail c.loop-number.ring c.in-Some.number c.take.new.self c.loop-number.invariant.0 c.in-Some.ensures.taken
