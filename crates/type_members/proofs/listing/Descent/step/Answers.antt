use Rattle.std.proofs.Common.{◌<◌, map, rules}
use Rattle.type_members.specs.Listed.{seen_listed}
use Rattle.type_members.specs.Listing.{pending, way_of}
use Rattle.type_members.proofs.Tasks.{entered}
use Rattle.type_members.proofs.listing.Descent.step.Goals as goal

pub returns-in-All : goal.returns-in-All
returns-in-All c =
    let above : 0 < c.in-All.steps = search rules in
    entered (way_of c.args.self.now) c.args.task.of c.as_slice-under.result.now c.args.task.under c.args.task.stage c.in-All.steps
    (map seen_listed c.args.into.now.items) (map seen_listed c.push_own.new.into.items) (pending (way_of c.args.self.now) c.args.tasks.now.items)
    (pending (way_of c.args.self.now) c.push_below.new.tasks.items) (search rules) c.in-All.is above c.in_ok-push_own-in-All.ensures c.in_ok-push_below-in-All.ensures
