use Rattle.std.proofs.Common.{◌≡◌, ◌++◌, reverse, vec_len}
use Rattle.scene_expansion.proofs.walk.stack.Given as goal

abbrev pub invariant-loop-work : goal.invariant-loop-work
invariant-loop-work l = l.pending.items ++ reverse l.left.items ≡ l.initial.pending.items ++ reverse l.initial.left.items

abbrev pub decreases-loop-work : goal.decreases-loop-work
decreases-loop-work l = vec_len l.left
