use Rattle.std.proofs.Common.{◌≡◌, ◌≤◌}
use Rattle.bound_trail.specs.History.{mark_of, back_to}
use Rattle.bound_trail.proofs.trail.Trail.undo_to.Given as goal

abbrev pub invariant-loop-self : goal.invariant-loop-self
invariant-loop-self l = (l.mark ≤ mark_of l.self) × (back_to l.self l.mark ≡ back_to l.fn.self l.mark)

abbrev pub decreases-loop-self : goal.decreases-loop-self
decreases-loop-self l = mark_of l.self
