-- The first and the last of some ticks.
use Rattle.std.specs.Prelude.{ℤ, ◌&&◌, Bool, cond, List, [], ◌∷◌, int_le}
use Rattle.std.specs.List.{list_all, list_any}
use Rattle.osc_base.specs.declared.path.Path.{Path}
use Rattle.osc_base.specs.Comparisons.{same_number}

-- the greater of two ticks
abbrev pub later_tick : ℤ → ℤ → ℤ
later_tick a b = cond (int_le a b) b a

-- the greatest of a tick and others
abbrev pub latest : ℤ → List ℤ → ℤ
latest tick [] = tick
latest tick (t ∷ ts) = latest (later_tick tick t) ts

-- the tick of a path is the least of those of some paths
abbrev pub is_first : (Path → ℤ) → Path → List Path → Bool
is_first tick whole others = list_all (λ m. int_le (tick whole) (tick m)) others && list_any (λ m. same_number (tick m) (tick whole)) others

-- the tick of a path is the greatest of those of some paths
abbrev pub is_last : (Path → ℤ) → Path → List Path → Bool
is_last tick whole others = list_all (λ m. int_le (tick m) (tick whole)) others && list_any (λ m. same_number (tick m) (tick whole)) others
