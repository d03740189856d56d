-- The scene of a scenario: the lists that its expansion holds, with all paths replaced by their homes.
use Rattle.std.specs.Prelude.{ℕ, ◌&&◌, Bool, false, List, [], ◌∷◌, ◌++◌, None, map, filter, codes, is_some, option_map, option_to_list}
use Rattle.std.specs.Option.{option_map_or}
use Rattle.std.specs.List.{list_any, list_all}
use Rattle.expr_nodes.specs.osc_base.declared.path.Path.{Path}
use Rattle.expr_nodes.specs.osc_base.Paths.{same_path}
use Rattle.cond_inherit.specs.type_heads.Table.{named, is_kind_of}
use Rattle.cond_inherit.specs.type_heads.Types.{Types}
use Rattle.expr_nodes.specs.Typed.{moved}
use Rattle.composition.specs.declared.guard.Guard.{Guard}
use Rattle.composition.specs.declared.setting.Setting.{Setting}
use Rattle.composition.specs.Scenes.{Content, Spot, Binding, Occurrence, ModifierSpot, Scene, source, vehicles}
use Rattle.composition.specs.There.{read_by, removed}
use Rattle.composition.specs.Homes.{home}
use Rattle.composition.specs.Givens.{Given}
use Rattle.composition.specs.Expansion.{GivenModifier, Expansion, Expansions, Object, Value, Phase, End, Part, expansion}
use Rattle.composition.specs.Invariants.{is_target}

-- the type is the library's `vehicle` or inherits from it
abbrev pub is_vehicle : Types → ℕ → Bool
is_vehicle ts t = is_some ts.library && option_map_or (λ v. is_kind_of ts.table.heads v t) (named ts.table.heads None (codes "vehicle")) false

-- a spot with its path, conditions and content
abbrev pub spot : Path → List Guard → Content → Spot
spot path guards content = record { path = path; guards = guards; content = content }

-- an object before its parts, an invocation before the object that it makes
abbrev mutual
  pub spots_of : Types → Expansion → List Spot
  spots_of ts (Object path t guards parts own) = spot path guards (Content.Object (is_vehicle ts t)) ∷ spots_in ts parts
  spots_of ts (Value path guards range) = spot path guards (Content.Value range) ∷ []
  spots_of ts (Phase path guards kind members bindings object given modifiers) = spot path guards (Content.Phase kind members) ∷ spots_in ts object

  -- the spots of a row of parts
  pub spots_in : Types → Expansions → List Spot
  spots_in ts End = []
  spots_in ts (Part part others) = spots_of ts part ++ spots_in ts others

-- the constraints of an object's parts before its own, those of an invoked object before those of its invocation
abbrev mutual
  pub givens_of : Expansion → List Given
  givens_of (Object path t guards parts own) = givens_in parts ++ own
  givens_of (Value path guards range) = []
  givens_of (Phase path guards kind members bindings object given modifiers) = givens_in object ++ given

  -- the constraints of a row of parts
  pub givens_in : Expansions → List Given
  givens_in End = []
  givens_in (Part part others) = givens_of part ++ givens_in others

-- the modifiers of an invocation before those of the object that it makes
abbrev mutual
  pub modifiers_of : Expansion → List GivenModifier
  modifiers_of (Object path t guards parts own) = modifiers_in parts
  modifiers_of (Value path guards range) = []
  modifiers_of (Phase path guards kind members bindings object given modifiers) = modifiers ++ modifiers_in object

  -- the modifiers of a row of parts
  pub modifiers_in : Expansions → List GivenModifier
  modifiers_in End = []
  modifiers_in (Part part others) = modifiers_of part ++ modifiers_in others

abbrev mutual
  -- all bindings that calls make
  pub bindings_of : Expansion → List Binding
  bindings_of (Object path t guards parts own) = bindings_in parts
  bindings_of (Value path guards range) = []
  bindings_of (Phase path guards kind members bindings object given modifiers) = bindings ++ bindings_in object

  -- the bindings of a row of parts
  pub bindings_in : Expansions → List Binding
  bindings_in End = []
  bindings_in (Part part others) = bindings_of part ++ bindings_in others

-- a constraint with its target and what it reads at their homes
abbrev pub occurrence_of : List Binding → Given → Occurrence
occurrence_of bindings g = record {
  place = g.place;
  holder = g.holder;
  under = g.under;
  mark = record { target = option_map (home bindings) g.target; strength = g.strength };
  typed = option_map (moved (home bindings)) g.typed;
}

-- a modifier with its vehicles and what it reads at their homes
abbrev pub modifier_of : List Binding → ModifierSpot → ModifierSpot
modifier_of bindings m = record m {
  own = home bindings m.own;
  other = option_map (home bindings) m.other;
  low = option_map (moved (home bindings)) m.low;
  high = option_map (moved (home bindings)) m.high;
}

-- a scene with all constraints and modifiers that the texts give
abbrev pub scene_from : Types → Setting → Expansion → Scene
scene_from ts setting tree =
    let bindings = bindings_of tree in
    record {
      spots = spots_of ts tree;
      bindings = bindings;
      occurrences = map (occurrence_of bindings) (givens_of tree);
      modifiers = map (λ g. modifier_of bindings g.modifier) (modifiers_of tree);
      setting = setting;
      texts = ts.table.texts;
    }

-- ---- what can be there
-- A constraint or modifier is there in a run only if all that it reads is. A text under a condition may name an `actor` that the object which has the
-- text doesn't have: then it is there in no run, and the scene leaves it out.

-- a path leads to a value or a duration of the scene
abbrev pub is_readable : Scene → Path → Bool
is_readable scene path = is_target scene path (source scene path)

-- a path leads to a vehicle of the scene
abbrev pub is_driven : Scene → Path → Bool
is_driven scene path = list_any (same_path path) (vehicles scene)

-- the scene has all that a constraint reads
abbrev pub can_be_asked : Scene → Occurrence → Bool
can_be_asked scene o = list_all (is_readable scene) (read_by o.typed ++ removed o.mark)

-- the scene has the vehicles of a modifier, and all that its range reads
abbrev pub can_apply : Scene → ModifierSpot → Bool
can_apply scene m = list_all (is_driven scene) (m.own ∷ option_to_list m.other) && list_all (is_readable scene) (read_by m.low ++ read_by m.high)

-- a scene without the constraints and modifiers that are there in no run
abbrev pub with_readable : Scene → Scene
with_readable scene = record scene {
  occurrences = filter (can_be_asked scene) scene.occurrences;
  modifiers = filter (can_apply scene) scene.modifiers;
}

-- the scene of the scenario of that number under a setting
abbrev pub scene : Types → ℕ → Setting → Scene
scene ts t setting = with_readable (scene_from ts setting (expansion ts t))
