use Rattle.bound_trail.proofs.Boxes.{opened, undone_trail, undone_value}
use Rattle.bound_trail.proofs.trail.Trail.undo.Goals as goal

pub invariant_of-self : goal.invariant_of-self
invariant_of-self c = undone_trail c.self.inside.mark c.self.inside.changes.items c.self.inside.pairs.items c.args.self.now
    (opened c.self.inside.mark c.self.inside.changes.items c.self.inside.pairs.items c.args.self.now c.self.view_is c.self.invariant)
    c.index-change.result.now c.requires c.index-change.ensures

pub returns : goal.returns
returns c = undone_value c.self.inside.mark c.self.inside.changes.items c.self.inside.pairs.items c.args.self.now
    (opened c.self.inside.mark c.self.inside.changes.items c.self.inside.pairs.items c.args.self.now c.self.view_is c.self.invariant)
    c.index-change.result.now c.requires c.index-change.ensures
