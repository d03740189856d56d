-- What the program's own sources stand for in the definitions.
use Rattle.std.specs.Prelude.{Bool, false, List, [], ◌∷◌, Option, find, bytes_eq, codes}
use Rattle.std.specs.Option.{option_or}
use Rattle.expr_nodes.specs.osc_base.declared.path.Path.{Path}
use Rattle.expr_nodes.specs.osc_base.declared.path.Step.{Step}
use Rattle.expr_nodes.specs.osc_base.declared.path.Step.TheVariants.{Name, Index, Member}
use Rattle.expr_nodes.specs.osc_base.Paths.{same_path, then_duration}
use Rattle.composition.specs.declared.part.Spot.{Spot}
use Rattle.composition.specs.declared.source.Source.{Source}
use Rattle.composition.specs.Scenes as Scenes

-- what is read at a path
abbrev pub seen_source : Source → Scenes.Source
seen_source Source.Run = Scenes.OfRun
seen_source (Source.Phase phase) = Scenes.OfPhase phase.now
seen_source Source.Value = Scenes.OfValue

-- the duration of the whole run is read there
abbrev pub is_root_timed : List Step → Bool
is_root_timed [] = false
is_root_timed (Name name ∷ []) = bytes_eq name (codes "duration")
is_root_timed (Index number ∷ []) = false
is_root_timed (Member number ∷ []) = false
is_root_timed (step ∷ next ∷ later) = false

-- the first spot at a path, or the first whose duration is read there
abbrev pub first_read : List Spot → Path → Option Spot
first_read spots path = option_or (find (λ (s : Spot). same_path s.path path) spots) (find (λ (s : Spot). same_path (then_duration s.path) path) spots)
