-- What grouped marks tell of each mark.
use Rattle.std.specs.Prelude.{ℕ, List, [], Option, Some, None, drop, slice_get}
use Rattle.keep_rules.specs.declared.targets.Own.{Own}
use Rattle.keep_rules.specs.declared.rows.TargetRows.{TargetRows}
use Rattle.keep_rules.specs.declared.targets.Targets.{Targets}
use Rattle.keep_rules.specs.TargetRows.{row_at}

-- the later ones after a place among the marks with one target
abbrev pub after_own : TargetRows → Option (Option Own) → List ℕ
after_own t None = []
after_own t (Some None) = []
after_own t (Some (Some own)) = drop own.skip (row_at t own.target)

-- the numbers of the marks that override mark i
abbrev pub later_of : Targets → ℕ → List ℕ
later_of t i = after_own t.rows (slice_get t.owns i)
