use Rattle.std.proofs.Common.{sym}
use Rattle.bound_trail.proofs.Boxes.{opened, mark_is, present_box, present_few}
use Rattle.bound_trail.proofs.trail.Trail.mark.Goals as goal

pub returns-clause-mark : goal.returns-clause-mark
returns-clause-mark c = sym (mark_is c.self.inside.mark c.self.inside.changes.items c.self.inside.pairs.items c.args.self.now
    (opened c.self.inside.mark c.self.inside.changes.items c.self.inside.pairs.items c.args.self.now c.self.view_is c.self.invariant))

pub returns-clause-ordered : goal.returns-clause-ordered
returns-clause-ordered c = present_box c.self.inside.mark c.self.inside.changes.items c.self.inside.pairs.items c.args.self.now
    (opened c.self.inside.mark c.self.inside.changes.items c.self.inside.pairs.items c.args.self.now c.self.view_is c.self.invariant)

pub returns-clause-few : goal.returns-clause-few
returns-clause-few c = present_few c.self.inside.mark c.self.inside.changes.items c.self.inside.pairs.items c.args.self.now
    (opened c.self.inside.mark c.self.inside.changes.items c.self.inside.pairs.items c.args.self.now c.self.view_is c.self.invariant)
