-- What the scenes of a program without faults of declarations have.
use Rattle.std.specs.Prelude.{◌≡◌, ℕ, ◌^◌, ◌&&◌, true, false, List, [], Option, Some, None, map, length, nat_lt}
use Rattle.std.specs.List.{list_all}
use Rattle.field_flatten.specs.osc_base.declared.path.Path.{Path}
use Rattle.expansion_laws.specs.dsl_tree.ExprTree.{ExprTree}
use Rattle.expansion_laws.specs.type_heads.Table.{Table}
use Rattle.expansion_laws.specs.type_heads.Types.{Program, Types}
use Rattle.expansion_laws.specs.type_heads.DeclaredTypes.{types_of}
use Rattle.expansion_laws.specs.expr_nodes.Typed.{Typed, moved}
use Rattle.expansion_laws.specs.expr_nodes.Scope.{Scope}
use Rattle.expansion_laws.specs.expr_nodes.Typing.{typed}
use Rattle.expansion_laws.specs.expr_nodes.Parts.{is_scalar}
use Rattle.expansion_laws.specs.expr_nodes.Sound.{is_sound}
use Rattle.expansion_laws.specs.composition.declared.setting.Setting.{Setting}
use Rattle.expansion_laws.specs.composition.declared.spot.ChoiceSpot.{ChoiceSpot}
use Rattle.expansion_laws.specs.composition.declared.spot.ValueSpot.{ValueSpot}
use Rattle.expansion_laws.specs.composition.declared.spot.PhaseSpot.{PhaseSpot}
use Rattle.expansion_laws.specs.composition.Scenes.{Scene, Spot, Occurrence, ModifierSpot, source, choices, values, phases, vehicles}
use Rattle.expansion_laws.specs.composition.There.{presence, modifier_presence}
use Rattle.expansion_laws.specs.composition.Slots.{slot_names}
use Rattle.expansion_laws.specs.composition.Items.{items}
use Rattle.expansion_laws.specs.composition.Expanded.{scene}
use Rattle.expansion_laws.specs.composition.SceneFaults.{named_scenario, is_too_large}
use Rattle.expansion_laws.specs.composition.StaticFaults.{declaration_fault}
use Rattle.expansion_laws.specs.composition.Invariants.{are_texts, are_distinct, are_grounded, are_nested, has_whole, is_range}
use Rattle.field_flatten.specs.Seen.{has_values}
use Rattle.field_flatten.specs.Exactness.{is_value_source, is_ordered_range, are_small_guards}
use Rattle.scene_laws.specs.Premises.{IsSmallTable, are_short, are_held, is_spelled_program}

-- The values of a scene hold a number, enums in order, each `one_of` has a member, and the texts are distinct.
pub record HasRanges (scene : Scene) : Type 0 where
  pub ranges : list_all (λ (v : ValueSpot). is_range v.range) (values scene) ≡ true
  pub enums_ordered : list_all (λ (v : ValueSpot). is_ordered_range v.range) (values scene) ≡ true
  pub choices_full : list_all (λ (c : ChoiceSpot). nat_lt 0 c.members) (choices scene) ≡ true
  pub texts : (are_texts scene.texts && nat_lt 0 (length scene.texts)) ≡ true

-- Within each sort of spots a path stands once, phases stand in phases, all of them in the `do` of the named scenario, and no spot stands where a
-- duration is read.
pub record IsLaidOut (scene : Scene) : Type 0 where
  pub choices_distinct : are_distinct (map (λ (c : ChoiceSpot). c.path) (choices scene)) ≡ true
  pub values_distinct : are_distinct (map (λ (v : ValueSpot). v.path) (values scene)) ≡ true
  pub phases_distinct : are_distinct (map (λ (p : PhaseSpot). p.path) (phases scene)) ≡ true
  pub vehicles_distinct : are_distinct (vehicles scene) ≡ true
  pub nested : are_nested [] (phases scene) ≡ true
  pub whole : has_whole scene ≡ true
  pub no_durations : list_all (λ (s : Spot). is_value_source (source scene s.path)) scene.spots ≡ true

-- a scene with few slots and few rules
pub record IsFew (scene : Scene) : Type 0 where
  pub few_slots : nat_lt (length (slot_names scene)) (2 ^ 32) ≡ true
  pub few_rules : nat_lt (length (items scene)) (2 ^ 32) ≡ true

-- a sound expression, of values if it is one; so it stays when its paths are replaced
pub record IsSoundTyped (t : Typed) : Type 0 where
  pub sound : (to : Path → Path) → is_sound (moved to t) ≡ true
  pub values : (to : Path → Path) → is_scalar t ≡ true → has_values (moved to t) ≡ true

-- the conditions of constraints and modifiers are grounded
pub record IsGrounded (scene : Scene) : Type 0 where
  pub occurrences_grounded : list_all (λ (o : Occurrence). are_grounded scene [] (presence scene o)) scene.occurrences ≡ true
  pub modifiers_grounded : list_all (λ (m : ModifierSpot). are_grounded scene [] (modifier_presence scene m)) scene.modifiers ≡ true

-- the conditions of constraints and modifiers ask for small numbers
pub record HasSmallConditions (scene : Scene) : Type 0 where
  pub occurrences_small : list_all (λ (o : Occurrence). are_small_guards (presence scene o)) scene.occurrences ≡ true
  pub modifiers_small : list_all (λ (m : ModifierSpot). are_small_guards (modifier_presence scene m)) scene.modifiers ≡ true

-- ---- the laws

-- of each type of a program whose trees are as the grammar has them, without a fault of headings, members and uses
abbrev pub ScenesHaveRanges : Type 0
ScenesHaveRanges = (p : Program) (t : ℕ) (setting : Setting) → is_spelled_program p ≡ true → declaration_fault p (types_of p) ≡ None → HasRanges (scene (types_of p) t setting)

-- of each scenario that is named
abbrev pub ScenesAreLaidOut : Type 0
ScenesAreLaidOut =
    (p : Program) (t : ℕ) (owner : Option (List ℕ)) (name : List ℕ) (setting : Setting) → is_spelled_program p ≡ true → declaration_fault p (types_of p) ≡ None
    → named_scenario (types_of p) owner name ≡ Some t → IsLaidOut (scene (types_of p) t setting)

-- of each scenario that isn't too large
abbrev pub ScenesAreFew : Type 0
ScenesAreFew = (ts : Types) (t : ℕ) (setting : Setting) → is_too_large ts t setting ≡ false → IsFew (scene ts t setting)

-- of the typed form of each expression with short numbers, over a table with few texts
abbrev pub TypedAreSound : Type 0
TypedAreSound = (table : Table) (sc : Scope) (e : ExprTree) (t : Typed) → IsSmallTable table → are_short e ≡ true → typed table sc e ≡ Some t → IsSoundTyped t

-- of each scene whose spots have grounded conditions, and whose constraints' own conditions are grounded behind those of their holders
abbrev pub ConditionsAreGrounded : Type 0
ConditionsAreGrounded =
    (scene : Scene) → list_all (λ (s : Spot). are_grounded scene [] s.guards) scene.spots ≡ true → list_all (are_held scene) scene.occurrences ≡ true → IsGrounded scene

-- of each scene whose spots and constraints have conditions that ask for small numbers
abbrev pub ConditionsAreSmall : Type 0
ConditionsAreSmall =
    (scene : Scene) → list_all (λ (s : Spot). are_small_guards s.guards) scene.spots ≡ true → list_all (λ (o : Occurrence). are_small_guards o.under) scene.occurrences ≡ true → HasSmallConditions scene
