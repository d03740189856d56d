use Rattle.std.proofs.Common.{◌<◌, arith}
use Rattle.refute_check.proofs.Walks.{wait_few, few_above}
use Rattle.bound_trail.specs.History.{mark_of, present}
use Rattle.refute_check.proofs.step.step.Goals as goal

pub enter-requires-clause-stack_room : goal.enter-requires-clause-stack_room
enter-requires-clause-stack_room c =
    let few : mark_of c.args.trail.now < c.args.trail.now.room = few_above c.args.trail.now.room (present c.args.trail.now) (mark_of c.args.trail.now) c.in-Cut.side _ _ c.in-Some.ensures.accepts in
    omega (arith, wait_few c.args.trail.now.boxes _ c.args.stack.now.items c.requires.standing.wait, few, c.requires.rooms)
