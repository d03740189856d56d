-- Homes, by the program's own parts of a scene.
use Rattle.std.specs.Prelude.{ℕ, Bool, true, false, List, ◌++◌, Option, Some, None, drop, length, is_some, min}
use Rattle.expr_nodes.specs.osc_base.declared.path.Path.{Path}
use Rattle.expr_nodes.specs.osc_base.declared.path.Step.{Step}
use Rattle.expr_nodes.specs.osc_base.Paths.{path_of, steps_after}
use Rattle.composition.specs.declared.part.Binding.{Binding}
use Rattle.composition.specs.declared.source.Source.{Source}

-- steps lead through a parameter
abbrev pub leads : List Step → Binding → Bool
leads steps b = is_some (steps_after b.at.steps steps)

-- the home of a parameter, with what a path has after the parameter
abbrev pub moved_on : Path → Binding → Path
moved_on path b = path_of (b.home.steps ++ drop (length b.at.steps) path.steps)

-- the lesser of two places
abbrev pub least_place : Option ℕ → Option ℕ → Option ℕ
least_place None b = b
least_place (Some a) None = Some a
least_place (Some a) (Some b) = Some (min a b)

-- a duration is read there
abbrev pub is_timed : Source → Bool
is_timed Source.Run = true
is_timed (Source.Phase phase) = true
is_timed Source.Value = false
