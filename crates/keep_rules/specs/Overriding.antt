-- Which later constraints override a default.
use Rattle.std.specs.Prelude.{ℕ, ◌+◌, Bool, true, false, cond, List, [], ◌∷◌, Option, Some, None, drop, slice_get}
use Rattle.path_index.specs.osc_base.declared.path.Path.{Path}
use Rattle.path_index.specs.osc_base.declared.mark.Mark.{Mark}
use Rattle.path_index.specs.osc_base.declared.mark.Strength.{Strength}
use Rattle.path_index.specs.osc_base.Paths.{same_path}

-- it is a default
abbrev pub is_default : Strength → Bool
is_default Strength.Hard = false
is_default Strength.Default = true
is_default Strength.Remove = false

-- both are about the same field or duration
abbrev pub same_target : Option Path → Option Path → Bool
same_target (Some a) (Some b) = same_path a b
same_target _ _ = false

-- the numbers of the marks with that target; the first mark has the number n
abbrev pub with_target : Option Path → ℕ → List Mark → List ℕ
with_target target n [] = []
with_target target n (m ∷ ms) = cond (same_target target m.target) (n ∷ with_target target (n + 1) ms) (with_target target (n + 1) ms)

-- the numbers of the later marks with the target of a default; another mark has none
abbrev pub overriders_from : Option Mark → ℕ → List Mark → List ℕ
overriders_from None n later = []
overriders_from (Some mark) n later = cond (is_default mark.strength) (with_target mark.target n later) []

-- the numbers of the marks that override mark i if they are there, ascending
abbrev pub overriders : List Mark → ℕ → List ℕ
overriders marks i = overriders_from (slice_get marks i) (i + 1) (drop (i + 1) marks)
