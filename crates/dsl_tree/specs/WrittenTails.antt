-- What stands after the first part of a row of operators, and after the head of suffixes.
use Rattle.std.specs.Prelude.{ℕ, List, [], ◌∷◌}
use Rattle.dsl_tree.specs.Views.{FurtherTree, SuffixTree, Named, At}
use Rattle.dsl_tree.specs.Forest.{Forest, nil}
use Rattle.dsl_tree.specs.Written.{at, next_part, next_name, next_index, written, expr}

-- operators and their parts, at the level of the parts
abbrev pub further_tail : ℕ → List FurtherTree → Forest
further_tail l [] = nil
further_tail l (next ∷ rest) = next_part next.place next.operator (at l next.part (written next.part)) (further_tail l rest)

abbrev pub suffix_tail : List SuffixTree → Forest
suffix_tail [] = nil
suffix_tail (Named name ∷ rest) = next_name name (suffix_tail rest)
suffix_tail (At place index ∷ rest) = next_index place (expr index) (suffix_tail rest)
