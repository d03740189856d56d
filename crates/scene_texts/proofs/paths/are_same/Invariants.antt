use Rattle.std.proofs.Common.{◌≡◌, length}
use Rattle.dsl_tree.specs.osc_base.Paths.{same_steps}
use Rattle.scene_texts.proofs.paths.are_same.Given as goal

abbrev pub invariant-loop-left : goal.invariant-loop-left
invariant-loop-left l = same_steps l.left l.rest ≡ same_steps l.a l.b

abbrev pub decreases-loop-left : goal.decreases-loop-left
decreases-loop-left l = length l.left
