-- The point of the low ends of a box.
use Rattle.std.specs.Prelude.{List, map, ℤ}
use Rattle.box_eval.specs.declared.bounds.Pair.{Pair}

abbrev pub lows_of : List Pair → List ℤ
lows_of ends = map (λ p. p.low) ends
