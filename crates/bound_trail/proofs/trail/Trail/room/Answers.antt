use Rattle.std.proofs.Common.{◌≡◌, ap, arith}
use Rattle.bound_trail.specs.History.{mark_of}
use Rattle.bound_trail.proofs.Boxes.{opened, mark_is}
use Rattle.bound_trail.proofs.trail.Trail.room.Goals as goal

pub returns : goal.returns
returns c =
    let mark : mark_of c.args.self.now ≡ c.self.inside.mark = mark_is c.self.inside.mark c.self.inside.changes.items c.self.inside.pairs.items c.args.self.now
    (opened c.self.inside.mark c.self.inside.changes.items c.self.inside.pairs.items c.args.self.now c.self.view_is c.self.invariant) in
    omega (arith, mark, ap (λ h. h.room) c.self.view_is)
