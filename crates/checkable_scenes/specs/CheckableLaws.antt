-- What the scenes and texts of programs without faults meet of what the check of runs, flat forms and typing ask.
use Rattle.std.specs.Prelude.{◌≡◌, ℕ, true, false, List, [], Option, Some, None}
use Rattle.std.specs.List.{All, list_all}
use Rattle.expr_eval.specs.type_heads.Types.{Program, Types}
use Rattle.expr_eval.specs.type_heads.DeclaredTypes.{types_of}
use Rattle.run_values.specs.composition.declared.setting.Setting.{Setting}
use Rattle.run_values.specs.composition.declared.spot.PhaseSpot.{PhaseSpot}
use Rattle.expr_eval.specs.expr_nodes.Typed.{Typed}
use Rattle.expr_eval.specs.expr_nodes.Sound.{each_read}
use Rattle.expr_eval.specs.expr_nodes.Scope.{It}
use Rattle.expr_eval.specs.Resolved.{is_told_it, IsResolved}
use Rattle.run_values.specs.composition.Calls.{Turn, without_labels, scope_at}
use Rattle.run_values.specs.composition.Scenes.{Scene, Spot, Occurrence, ModifierSpot, source, phases, vehicles}
use Rattle.run_values.specs.composition.There.{presence, modifier_presence}
use Rattle.run_values.specs.composition.Expanded.{scene}
use Rattle.run_values.specs.composition.SceneFaults.{named_scenario, is_too_large}
use Rattle.run_values.specs.composition.StaticFaults.{declaration_fault}
use Rattle.run_values.specs.composition.Invariants.{are_grounded, are_members, is_limited, is_read, is_occurrence, is_modifier, is_setting}
use Rattle.run_values.specs.field_flatten.Seen.{has_values}
use Rattle.run_values.specs.field_flatten.Exactness.{IsExpanded, IsLimited, is_narrow_range, expressions}
use Rattle.run_values.specs.Frames.{IsCheckable}
use Rattle.scene_laws.specs.Premises.{is_spelled_program, are_held}
use Rattle.checkable_scenes.specs.JudgedTexts.{IsTypedIn, all_judged}
use Rattle.checkable_scenes.specs.Premises.{IsLoadedProgram}

-- The conditions of spots, constraints and modifiers ask choices and numbers, each after the conditions of what it asks. The members of a phase are as
-- its kind says.
pub record IsGroundedScene (scene : Scene) : Type 0 where
  pub spots_grounded : list_all (λ (s : Spot). are_grounded scene [] s.guards) scene.spots ≡ true
  pub held : list_all (are_held scene) scene.occurrences ≡ true
  pub occurrences_grounded : list_all (λ (o : Occurrence). are_grounded scene [] (presence scene o)) scene.occurrences ≡ true
  pub modifiers_grounded : list_all (λ (m : ModifierSpot). are_grounded scene [] (modifier_presence scene m)) scene.modifiers ≡ true
  pub members : list_all (λ (p : PhaseSpot). are_members scene p p.kind) (phases scene) ≡ true

-- Constraints are sound and have truth values, and what constraints and modifiers read has a value.
pub record AreTyped (scene : Scene) : Type 0 where
  pub occurrences : list_all (λ (o : Occurrence). is_occurrence scene o o.mark.strength) scene.occurrences ≡ true
  pub all_values : list_all has_values (expressions scene) ≡ true

-- the scopes of the texts leave nothing open: those with labels, if `it` is told, and those without labels
pub record HasScopes (ts : Types) : Type 0 where
  pub labelled : (t : ℕ) (it : Option It) (way : List Turn) → is_told_it it ≡ true → IsResolved ts.table (scope_at ts t it way)
  pub bare : (t : ℕ) → IsResolved ts.table (without_labels t)

-- ---- the laws

-- of each program without a fault of declarations
abbrev pub ScopesAreResolved : Type 0
ScopesAreResolved = (p : Program) → declaration_fault p (types_of p) ≡ None → HasScopes (types_of p)

-- each expression of such a program, in the scope in which it is judged
abbrev pub ExpressionsAreTyped : Type 0
ExpressionsAreTyped = (p : Program) → declaration_fault p (types_of p) ≡ None → All (IsTypedIn (types_of p).table) (all_judged (types_of p))

-- of each named scenario of a program whose trees are as the grammar has them, without a fault of declarations
abbrev pub ScenesAreGrounded : Type 0
ScenesAreGrounded =
    (p : Program) (t : ℕ) (owner : Option (List ℕ)) (name : List ℕ) (setting : Setting) → is_spelled_program p ≡ true → declaration_fault p (types_of p) ≡ None
    → named_scenario (types_of p) owner name ≡ Some t → IsGroundedScene (scene (types_of p) t setting)

-- of each named scenario whose program has the limits of vehicles
abbrev pub VehiclesAreLimited : Type 0
VehiclesAreLimited =
    (p : Program) (t : ℕ) (owner : Option (List ℕ)) (name : List ℕ) (setting : Setting) → IsLoadedProgram p → declaration_fault p (types_of p) ≡ None
    → named_scenario (types_of p) owner name ≡ Some t → list_all (is_limited (scene (types_of p) t setting)) (vehicles (scene (types_of p) t setting)) ≡ true

-- of each scenario of a program
abbrev pub RangesAreNarrow : Type 0
RangesAreNarrow = (p : Program) (t : ℕ) (setting : Setting) → IsLoadedProgram p → declaration_fault p (types_of p) ≡ None → list_all is_narrow_range (scene (types_of p) t setting).modifiers ≡ true

-- of each named scenario that isn't too large
abbrev pub ScenesAreLimited : Type 0
ScenesAreLimited =
    (p : Program) (t : ℕ) (owner : Option (List ℕ)) (name : List ℕ) (setting : Setting) → IsLoadedProgram p → declaration_fault p (types_of p) ≡ None
    → named_scenario (types_of p) owner name ≡ Some t → is_too_large (types_of p) t setting ≡ false → IsLimited (scene (types_of p) t setting)

-- of each named scenario
abbrev pub ScenesAreTyped : Type 0
ScenesAreTyped =
    (p : Program) (t : ℕ) (owner : Option (List ℕ)) (name : List ℕ) (setting : Setting) → IsLoadedProgram p → declaration_fault p (types_of p) ≡ None
    → named_scenario (types_of p) owner name ≡ Some t → AreTyped (scene (types_of p) t setting)

-- of each such scenario that isn't too large, under a setting within its limits
abbrev pub ScenesAreExpanded : Type 0
ScenesAreExpanded =
    (p : Program) (t : ℕ) (owner : Option (List ℕ)) (name : List ℕ) (setting : Setting) → IsLoadedProgram p → declaration_fault p (types_of p) ≡ None
    → named_scenario (types_of p) owner name ≡ Some t → is_too_large (types_of p) t setting ≡ false → is_setting setting ≡ true → IsExpanded (scene (types_of p) t setting)

-- each expression of a scene reads durations and values that the scene has, each as its kind and size say
abbrev pub ReadsFit : Scene → Type 0
ReadsFit s = list_all (λ (x : Typed). each_read (λ i path per. is_read s i path per (source s path)) x) (expressions s) ≡ true

-- of each named scenario
abbrev pub ScenesHaveReads : Type 0
ScenesHaveReads =
    (p : Program) (t : ℕ) (owner : Option (List ℕ)) (name : List ℕ) (setting : Setting) → IsLoadedProgram p → declaration_fault p (types_of p) ≡ None
    → named_scenario (types_of p) owner name ≡ Some t → ReadsFit (scene (types_of p) t setting)

-- each modifier of a named scenario's scene has a phase, its vehicles, and sound ends of its range
abbrev pub ModifiersAreSound : Type 0
ModifiersAreSound =
    (p : Program) (t : ℕ) (owner : Option (List ℕ)) (name : List ℕ) (setting : Setting) → IsLoadedProgram p → declaration_fault p (types_of p) ≡ None
    → named_scenario (types_of p) owner name ≡ Some t → list_all (is_modifier (scene (types_of p) t setting)) (scene (types_of p) t setting).modifiers ≡ true

-- each scene that is expanded and limited can be checked
abbrev pub ScenesAreCheckable : Type 0
ScenesAreCheckable = (s : Scene) → IsExpanded s → IsLimited s → IsCheckable s
