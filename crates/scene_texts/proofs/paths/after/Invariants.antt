use Rattle.std.proofs.Common.{◌≡◌, length}
use Rattle.dsl_tree.specs.osc_base.Paths.{steps_after}
use Rattle.scene_texts.proofs.paths.after.Given as goal

abbrev pub invariant-loop-left : goal.invariant-loop-left
invariant-loop-left l = steps_after l.left l.rest ≡ steps_after l.prefix l.steps

abbrev pub decreases-loop-left : goal.decreases-loop-left
decreases-loop-left l = length l.left
