use Rattle.std.proofs.Common.{refl}
use Rattle.seeded_search.proofs.Working.{all_fit, waits_more, out_parts}
use Rattle.seeded_search.proofs.course.give_up.Goals as goal

pub first_false-requires-clause-fit : goal.first_false-requires-clause-fit
first_false-requires-clause-fit c = all_fit c.args.task.now c.args.work.now c.args.trail.now c.args.ring.now _ c.requires.runs

pub close-requires-clause-runs : goal.close-requires-clause-runs
close-requires-clause-runs c = waits_more c.args.task.now c.args.work.now c.args.trail.now c.args.ring.now _ c.requires.runs c.args.ring.now _ refl (λ k out. (out_parts k c.in-Some.number c.args.ring.now.items out).1)
