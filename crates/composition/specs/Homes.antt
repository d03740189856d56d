-- Homes: where what a path leads to stands by itself.
use Rattle.std.specs.Prelude.{Bool, true, false, cond, List, [], ◌∷◌, ◌++◌, Option, Some, None}
use Rattle.std.specs.Option.{option_map_or}
use Rattle.std.specs.List.{list_any}
use Rattle.expr_nodes.specs.osc_base.declared.path.Path.{Path}
use Rattle.expr_nodes.specs.osc_base.Paths.{path_of, same_path, steps_after}
use Rattle.composition.specs.Scenes.{Binding, Scene, Source, OfRun, OfPhase, OfValue, source, spot_at}

-- The path with a bound prefix replaced by its home. A home is no bound path, so one replacement is enough.
abbrev pub home : List Binding → Path → Path
home [] path = path
home (b ∷ bs) path = option_map_or (λ later. path_of (b.home.steps ++ later)) (steps_after b.at.steps path.steps) (home bs path)

-- a parameter that is another name of its argument
abbrev pub is_bound : List Binding → Path → Bool
is_bound bindings path = list_any (λ b. same_path b.at path) bindings

-- a duration is read there
abbrev pub is_timed : Source → Bool
is_timed OfRun = true
is_timed (OfPhase phase) = true
is_timed OfValue = false

-- there is a spot with that path, or a duration
abbrev pub is_home : Scene → Path → Bool
is_home scene path = option_map_or (λ spot. true) (spot_at scene path) (is_timed (source scene path))

-- the home of a path; none if the scene has no such path
abbrev pub home_of : Scene → Path → Option Path
home_of scene path = let h = home scene.bindings path in cond (is_home scene h) (Some h) None
