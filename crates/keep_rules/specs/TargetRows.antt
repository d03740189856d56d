-- The numbers of the marks with each target, and where a default stands among them.
use Rattle.std.specs.Prelude.{ℕ, ◌+◌, cond, List, [], ◌∷◌, Option, Some, None, length}
use Rattle.std.specs.Option.{option_map_or}
use Rattle.indexmap.specs.IndexMap.{get_by}
use Rattle.path_index.specs.osc_base.declared.path.Path.{Path}
use Rattle.path_index.specs.osc_base.declared.mark.Mark.{Mark}
use Rattle.path_index.specs.osc_base.declared.mark.Strength.{Strength}
use Rattle.path_index.specs.osc_base.Paths.{same_path}
use Rattle.keep_rules.specs.declared.rows.TargetRows.{TargetRows}
use Rattle.keep_rules.specs.declared.targets.Own.{Own}

-- the numbers of the marks with a target
abbrev pub row_at : TargetRows → Path → List ℕ
row_at t target = option_map_or (λ row. row) (get_by (same_path target) t.rows) []

-- where a mark with this strength and target stands after the marks that are there
abbrev pub own_with : TargetRows → Strength → Option Path → Option Own
own_with t Strength.Default (Some target) = Some (record { target = target; skip = length (row_at t target) + 1 })
own_with t Strength.Default None = None
own_with t Strength.Hard target = None
own_with t Strength.Remove target = None

-- the same of a mark
abbrev pub own_at : TargetRows → Mark → Option Own
own_at t mark = own_with t mark.strength mark.target

-- what a mark with this target and number adds to the numbers of a path
abbrev pub added : Path → Option Path → ℕ → List ℕ
added path None number = []
added path (Some target) number = cond (same_path target path) (number ∷ []) []
