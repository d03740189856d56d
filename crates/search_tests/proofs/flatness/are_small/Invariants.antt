use Rattle.std.proofs.Common.{◌≡◌, ℕ, ◌<◌, slice_get, Some}
use Rattle.box_eval.specs.declared.bounds.Pair.{Pair}
use Rattle.search_tests.specs.Small.{IsSmall}
use Rattle.search_tests.proofs.flatness.are_small.Given as goal

abbrev pub invariant-loop-pair : goal.invariant-loop-pair
invariant-loop-pair l = (k : ℕ) (pair : Pair) → k < l.pair-index → slice_get l.pairs k ≡ Some pair → IsSmall pair
