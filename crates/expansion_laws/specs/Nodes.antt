-- The parts of an expansion as lists, in the two orders in which they are listed.
use Rattle.std.specs.Prelude.{ℕ, List, [], ◌∷◌, ◌++◌}
use Rattle.composition.specs.osc_base.declared.path.Path.{Path}
use Rattle.composition.specs.type_heads.Types.{Types}
use Rattle.composition.specs.declared.guard.Guard.{Guard}
use Rattle.composition.specs.declared.spot.ValueRange.{ValueRange}
use Rattle.composition.specs.declared.spot.PhaseKind.{PhaseKind}
use Rattle.composition.specs.Scenes.{Content, Spot, Binding}
use Rattle.composition.specs.Givens.{Given}
use Rattle.composition.specs.Expansion.{GivenModifier, Expansion, Expansions, Object, Value, Phase, End, Part}
use Rattle.composition.specs.Expanded.{is_vehicle, spot}

-- a part of an expansion without the parts in it
pub record Node : Type 0 where
  pub spot : Spot
  pub bindings : List Binding
  pub given : List Given
  pub modifiers : List GivenModifier

-- an object with its own constraints
abbrev pub object_node : Types → Path → ℕ → List Guard → List Given → Node
object_node ts path t guards own = record { spot = spot path guards (Content.Object (is_vehicle ts t)); bindings = []; given = own; modifiers = [] }

-- a value
abbrev pub value_node : Path → List Guard → ValueRange → Node
value_node path guards range = record { spot = spot path guards (Content.Value range); bindings = []; given = []; modifiers = [] }

-- a phase with the bindings of its arguments, its constraints and its modifiers
abbrev pub phase_node : Path → List Guard → PhaseKind → List Path → List Binding → List Given → List GivenModifier → Node
phase_node path guards kind members bindings given modifiers = record { spot = spot path guards (Content.Phase kind members); bindings = bindings; given = given; modifiers = modifiers }

-- each part before the parts in it
abbrev mutual
  pub nodes_of : Types → Expansion → List Node
  nodes_of ts (Object path t guards parts own) = object_node ts path t guards own ∷ nodes_in ts parts
  nodes_of ts (Value path guards range) = value_node path guards range ∷ []
  nodes_of ts (Phase path guards kind members bindings object given modifiers) = phase_node path guards kind members bindings given modifiers ∷ nodes_in ts object

  pub nodes_in : Types → Expansions → List Node
  nodes_in ts End = []
  nodes_in ts (Part part others) = nodes_of ts part ++ nodes_in ts others

-- each part after the parts in it
abbrev mutual
  pub closed_of : Types → Expansion → List Node
  closed_of ts (Object path t guards parts own) = closed_in ts parts ++ object_node ts path t guards own ∷ []
  closed_of ts (Value path guards range) = value_node path guards range ∷ []
  closed_of ts (Phase path guards kind members bindings object given modifiers) = closed_in ts object ++ phase_node path guards kind members bindings given modifiers ∷ []

  pub closed_in : Types → Expansions → List Node
  closed_in ts End = []
  closed_in ts (Part part others) = closed_of ts part ++ closed_in ts others
