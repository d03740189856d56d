use Rattle.std.proofs.Common.{◌≡◌, take}
use Rattle.box_eval.proofs.bounds.Bounds.copy.Given as goal

abbrev pub invariant-loop-pair : goal.invariant-loop-pair
invariant-loop-pair l = l.pairs ≡ take l.pair-index l.pair-items
