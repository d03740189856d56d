-- When a flat form says exactly what its scene says.
use Rattle.std.specs.Prelude.{◌≡◌, ℕ, ◌*◌, ◌/◌, not, length, nat_le, nat_lt, ◌&&◌, ◌||◌, ◌++◌, Bool, true, false, List, [], ◌∷◌, Option, map, flat_map, option_to_list, ℤ, int_lt}
use Rattle.std.specs.Option.{option_map_or}
use Rattle.std.specs.List.{list_all}
use Rattle.osc_base.specs.LowestTerms.{lcm}
use Rattle.osc_base.specs.Comparisons.{greatest_part}
use Rattle.modifier_rules.specs.Relations.{position_scale}
use Rattle.box_eval.specs.Box.{IsPointOf}
use Rattle.box_eval.specs.declared.flat.Flat.{Flat}
use Rattle.box_eval.specs.Rules.{Meets, IsEmpty, IsFlat}
use Rattle.box_eval.specs.FlatRules.{holds_at, flat_rule}
use Rattle.composition.specs.expr_nodes.Typed.{Typed, reach}
use Rattle.composition.specs.expr_nodes.Sizes.{field_reach}
use Rattle.composition.specs.declared.guard.Guard.{Guard}
use Rattle.composition.specs.declared.spot.PhaseSpot.{PhaseSpot}
use Rattle.composition.specs.There.{presence, modifier_presence}
use Rattle.composition.specs.declared.spot.ValueRange.{ValueRange}
use Rattle.composition.specs.declared.spot.ValueSpot.{ValueSpot}
use Rattle.composition.specs.Scenes.{Scene, Spot, Occurrence, ModifierSpot, Source, OfRun, OfPhase, OfValue, source, values, phases}
use Rattle.composition.specs.declared.clause.Clause.{Clause}
use Rattle.composition.specs.declared.run.Run.{Run}
use Rattle.composition.specs.Items.{items, item_holds, is_hard}
use Rattle.composition.specs.Claims.{Claim, claims, IsInstance}
use Rattle.composition.specs.Invariants.{IsScene, is_small}
use Rattle.field_flatten.specs.Ends.{bounds}
use Rattle.field_flatten.specs.Seen.{has_values}
use Rattle.field_flatten.specs.Points.{run_of, point_of}
use Rattle.field_flatten.specs.Rules.{layout, scale_of, arranged_rule, item_rule, rules}

-- ---- scenes

-- a path at which a value is read, and no duration
abbrev pub is_value_source : Source → Bool
is_value_source OfRun = false
is_value_source (OfPhase phase) = false
is_value_source OfValue = true

-- each number is less than the next
abbrev pub is_ascending : List ℤ → Bool
is_ascending [] = true
is_ascending (n ∷ []) = true
is_ascending (n ∷ m ∷ ms) = int_lt n m && is_ascending (m ∷ ms)

-- the numbers of an enum are distinct, and in order
abbrev pub is_ordered_range : ValueRange → Bool
is_ordered_range (ValueRange.Among numbers) = is_ascending numbers
is_ordered_range _ = true

-- the expressions of a scene: those of constraints, and the ends of modifiers
abbrev pub expressions : Scene → List Typed
expressions scene =
    flat_map (λ (o : Occurrence). option_to_list o.typed) scene.occurrences
    ++ flat_map (λ (m : ModifierSpot). option_to_list m.low ++ option_to_list m.high) scene.modifiers

-- What the laws need of an expanded scene: what holds of every scene; each part of an expression is a value; nothing stands where a duration is
-- read; and the numbers of each enum ascend.
pub record IsExpanded (scene : Scene) : Type 0 where
  pub is_scene : IsScene scene
  pub all_values : list_all has_values (expressions scene) ≡ true
  pub no_durations : list_all (λ (s : Spot). is_value_source (source scene s.path)) scene.spots ≡ true
  pub enums_ordered : list_all (λ (v : ValueSpot). is_ordered_range v.range) (values scene) ≡ true

-- ---- points and runs

-- every rule holds at a point
abbrev pub meets : Scene → List ℤ → Bool
meets scene point = list_all (holds_at point) (rules scene)

-- every rule holds at a point, those of hard constraints left out
abbrev pub meets_soft : Scene → List ℤ → Bool
meets_soft scene point = list_all (λ i. is_hard i || holds_at point (item_rule scene (layout scene) i)) (items scene)

-- the rule of every phase holds at a point
abbrev pub meets_phases : Scene → List ℤ → Bool
meets_phases scene point = list_all (λ p. holds_at point (arranged_rule scene (layout scene) p)) (phases scene)

-- the clause of hard constraints
abbrev pub is_hard_clause : Clause → Bool
is_hard_clause Clause.Hard = true
is_hard_clause _ = false

-- every claim holds in a run, those of hard constraints left out
abbrev pub is_framed : Scene → Run → Bool
is_framed scene run = list_all (λ (c : Claim). is_hard_clause c.clause || c.holds) (claims scene run)

-- At a point at which the rules of phases hold, the rule of each item holds exactly if the item holds in the point's run.
abbrev pub ItemsAgree : Scene → List ℤ → Type 0
ItemsAgree scene point = map (λ i. holds_at point (item_rule scene (layout scene) i)) (items scene) ≡ map (item_holds scene (run_of scene point)) (items scene)

-- a run is that of its point, which is in the box and at which every rule holds but those of hard constraints
pub record IsReached (scene : Scene) (run : Run) : Type 0 where
  pub inside : IsPointOf (bounds scene) (point_of scene run)
  pub met : meets_soft scene (point_of scene run) ≡ true
  pub gives : run_of scene (point_of scene run) ≡ run

-- a run is that of its point, which is in the box and at which every rule holds
pub record IsFound (scene : Scene) (run : Run) : Type 0 where
  pub inside : IsPointOf (bounds scene) (point_of scene run)
  pub met : meets scene (point_of scene run) ≡ true
  pub gives : run_of scene (point_of scene run) ≡ run

-- The flat form of a scene says exactly what the scene says.
pub record IsExact (scene : Scene) : Type 0 where
  pub items_agree : (point : List ℤ) → IsPointOf (bounds scene) point → meets_phases scene point ≡ true → ItemsAgree scene point
  pub forth : (point : List ℤ) → IsPointOf (bounds scene) point → meets_soft scene point ≡ true → is_framed scene (run_of scene point) ≡ true
  pub back : (run : Run) → is_framed scene run ≡ true → IsReached scene run
  pub instance_of : (point : List ℤ) → IsPointOf (bounds scene) point → meets scene point ≡ true → IsInstance scene (run_of scene point)
  pub point_of_instance : (run : Run) → IsInstance scene run → IsFound scene run
  pub none : ((point : List ℤ) → IsPointOf (bounds scene) point → meets scene point ≡ false) → (run : Run) → IsInstance scene run → ⊥

-- ---- flat forms as the program holds them

-- its ends are those of a scene's slots, and its rules are a scene's rules
pub record IsFlatOf (scene : Scene) (flat : Flat) : Type 0 where
  pub same_ends : flat.bounds.pairs ≡ bounds scene
  pub same_rules : map flat_rule flat.rules ≡ rules scene

-- its points are the instances of the scene
pub record IsExactFlat (scene : Scene) (flat : Flat) : Type 0 where
  pub instance_of : (point : List ℤ) → IsPointOf flat.bounds.pairs point → Meets point flat.rules → IsInstance scene (run_of scene point)
  pub inside : (run : Run) → IsInstance scene run → IsPointOf flat.bounds.pairs (point_of scene run)
  pub met : (run : Run) → IsInstance scene run → Meets (point_of scene run) flat.rules
  pub gives : (run : Run) → IsInstance scene run → run_of scene (point_of scene run) ≡ run
  pub none : IsEmpty flat.rules flat.bounds.pairs → (run : Run) → IsInstance scene run → ⊥

-- ---- the laws

-- the rules of a scene say exactly what the scene says
abbrev pub ScenesAreExact : Type 0
ScenesAreExact = (scene : Scene) → IsExpanded scene → IsExact scene

-- the points that meet all rules of a scene's flat form are the instances of the scene
abbrev pub FlatFormsAreExact : Type 0
FlatFormsAreExact = (scene : Scene) (flat : Flat) → IsExpanded scene → IsFlatOf scene flat → IsExactFlat scene flat

-- ---- reach

-- a condition asks for a number of at most 10^9 in magnitude
abbrev pub is_small_guard : Guard → Bool
is_small_guard (Guard.Choice phase member) = nat_le member field_reach
is_small_guard (Guard.Value path value) = is_small value

-- conditions with small numbers
abbrev pub are_small_guards : List Guard → Bool
are_small_guards conditions = list_all is_small_guard conditions

-- the greatest position, in micrometres
abbrev pub farthest : ℕ
farthest = 10000000000

-- the most metres, metres a second or lanes of a quantity that a modifier compares
abbrev pub quantity_reach : ℕ
quantity_reach = 2000000

-- the reach of an end, 1 if there is none
abbrev pub end_reach : Option Typed → ℕ
end_reach typed = option_map_or reach typed 1

-- The ends of a modifier's range are narrow at the scale at which they are compared with a quantity, and so is the greatest quantity.
abbrev pub is_narrow_range : ModifierSpot → Bool
is_narrow_range m =
    let own = lcm position_scale (lcm (scale_of m.low) (scale_of m.high)) in
    let common = lcm position_scale own in
    not (nat_lt greatest_part (quantity_reach * common))
    && (not (nat_lt greatest_part (end_reach m.low * (own / scale_of m.low) * (common / own)))
    && not (nat_lt greatest_part (end_reach m.high * (own / scale_of m.high) * (common / own))))

-- What the reach of rules needs of a scene beside `IsExpanded`: small numbers in conditions, few texts and members, and narrow ranges of modifiers.
pub record IsLimited (scene : Scene) : Type 0 where
  pub spots_small : list_all (λ (s : Spot). are_small_guards s.guards) scene.spots ≡ true
  pub occurrences_small : list_all (λ (o : Occurrence). are_small_guards (presence scene o)) scene.occurrences ≡ true
  pub modifiers_small : list_all (λ (m : ModifierSpot). are_small_guards (modifier_presence scene m)) scene.modifiers ≡ true
  pub few_texts : nat_le (length scene.texts) field_reach ≡ true
  pub few_members : list_all (λ (p : PhaseSpot). nat_le (length p.members) field_reach) (phases scene) ≡ true
  pub narrow_ranges : list_all is_narrow_range scene.modifiers ≡ true

-- a scene's flat form is one: its ends are a box on which each rule may be judged
abbrev pub FlatFormsAreFlat : Type 0
FlatFormsAreFlat = (scene : Scene) (flat : Flat) → IsExpanded scene → IsLimited scene → IsFlatOf scene flat → IsFlat flat
