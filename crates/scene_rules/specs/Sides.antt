-- The ticks at which phases start and end, and which phase is the whole.
use Rattle.std.specs.Prelude.{Bool, false, List, [], ◌∷◌, map, bytes_eq, codes}
use Rattle.osc_base.specs.declared.path.Path.{Path}
use Rattle.osc_base.specs.declared.path.Step.{Step}
use Rattle.osc_base.specs.declared.path.Step.TheVariants.{Name, Index, Member}
use Rattle.box_eval.specs.FlatRules.{FlatTerm}
use Rattle.rule_parts.specs.field_flatten.Shapes.{Layout, phase_start, phase_end}
use Rattle.scene_rules.specs.declared.spans.Side.{Side}

-- the tick of a phase
abbrev pub side_term : Layout → Side → Path → FlatTerm
side_term at Side.Start path = phase_start at path
side_term at Side.End path = phase_end at path

-- the ticks of phases
abbrev pub side_terms : Layout → Side → List Path → List FlatTerm
side_terms at side paths = map (side_term at side) paths

-- the only step is the name `do`
abbrev pub is_only_do : List Step → Bool
is_only_do [] = false
is_only_do (Name name ∷ []) = bytes_eq name (codes "do")
is_only_do (Index number ∷ []) = false
is_only_do (Member number ∷ []) = false
is_only_do (step ∷ next ∷ later) = false
