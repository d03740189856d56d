-- The rules of conditions, constraints, enums and phases fit.
use Rattle.std.proofs.Common.{◌≡◌, ℕ, zero, suc, ◌-◌, ◌≤◌, refl, sym, ap, subst, ◌⊎◌, inl, inr, List, [], ◌∷◌, ◌++◌, length, map, true, false, ◌&&◌, Option, Some, None, arith, true≢false}
use Rattle.std.specs.Prelude.{ℤ, pos, nat_le, nat_lt, unsigned_abs, option_to_list, option_and_then, slice_get}
use Rattle.std.specs.Option.{option_map_or, option_or}
use Rattle.std.specs.List.{list_any, list_all}
use Rattle.std.proofs.lemmas.Int.{ints}
use Rattle.osc_base.specs.declared.path.Path.{Path}
use Rattle.osc_base.specs.declared.path.Step.{Step}
use Rattle.osc_base.specs.declared.listing.SlotName.{SlotName}
use Rattle.osc_base.specs.Comparisons.{greatest_part}
use Rattle.osc_base.specs.Paths.{same_path, path_of, timed_part}
use Rattle.box_eval.specs.declared.bounds.Pair.{Pair}
use Rattle.box_eval.specs.Box.{pair}
use Rattle.box_eval.specs.FlatRules.{FlatRule, Whole, Slot, Equal, AtMost, all_of, any_of, under}
use Rattle.composition.specs.expr_nodes.Kinds.{is_truth}
use Rattle.composition.specs.expr_nodes.Typed.{Typed, kind}
use Rattle.composition.specs.expr_nodes.Sizes.{field_reach}
use Rattle.composition.specs.expr_nodes.Parts.{is_scalar}
use Rattle.composition.specs.expr_nodes.Sound.{is_sound, each_read}
use Rattle.composition.specs.declared.guard.Guard.{Guard}
use Rattle.composition.specs.declared.spot.ChoiceSpot.{ChoiceSpot}
use Rattle.composition.specs.declared.spot.ValueSpot.{ValueSpot}
use Rattle.composition.specs.declared.spot.ValueRange.{ValueRange}
use Rattle.composition.specs.declared.spot.PhaseSpot.{PhaseSpot}
use Rattle.composition.specs.declared.spot.PhaseKind.{PhaseKind}
use Rattle.composition.specs.Scenes.{Scene, Spot, Content, Object, Value, Phase, Occurrence, phase_spot, choice_spot, is_one_of, spot_at, guards, choices, values, phases, has_phase}
use Rattle.composition.specs.There.{same_guard, presence}
use Rattle.composition.specs.Invariants.{are_grounded, is_guard, guard_path, value_at, is_numeric, is_small, is_range, is_expression, are_members}
use Rattle.field_flatten.specs.Ends.{ends_of, no_ends}
use Rattle.field_flatten.specs.Shapes.{Layout, shape, phase_start, phase_end}
use Rattle.field_flatten.specs.Rules.{guard_rule, presence_rules, typed_rule, hard_rule, presence_of_number, default_rule, member_rule, enum_rule, kind_rules, root_do_rules, arranged_rule}
use Rattle.field_flatten.specs.Seen.{has_values}
use Rattle.field_flatten.specs.Exactness.{IsExpanded, IsLimited, is_small_guard, are_small_guards, expressions}
use Rattle.field_flatten.proofs.Tests.{left_of, right_of, two_ways, path_is, path_self, In, in_left, in_flat_map, all_at, any_at, found_in, finds}
use Rattle.field_flatten.proofs.Presence.{guards_grounded}
use Rattle.field_flatten.proofs.SlotLaw.{choice_named}
use Rattle.field_flatten.proofs.NumberLaw.{made_from, making}
use Rattle.field_flatten.proofs.PhaseLaw.{phase_known, one_of_choice}
use Rattle.field_flatten.proofs.ShapeReach.{reaches}
use Rattle.field_flatten.proofs.Fitting.{Fits, RuleFits, AllRules, whole_fits, equal_fits, at_most_fits, all_fit, any_fits, under_fits}
use Rattle.field_flatten.proofs.PhaseReach.{Timed, appended, single, mapped, kind_fit, root_do_fit, member_known}
use Rattle.field_flatten.proofs.ItemReach.{le_number, small_number, ends, slot, at, name_fits, start_fits, end_fits, value_fits, field_small, reading, read_fits, read_one}

-- a choice is a phase with as many members
choice_phase : (path : Path) (content : Content) (c : ChoiceSpot) → choice_spot path content ≡ Some c → (p : PhaseSpot) × (phase_spot path content ≡ Some p) × (c.members ≡ length p.members)
choice_phase path (Object vehicle) c e = cc
choice_phase path (Value range) c e = cc
choice_phase path (Phase kind members) c e = two_ways (is_one_of kind)
    (λ f. let Same : ChoiceSpot = record { path = path; members = length members } in
    let is : Some Same ≡ Some c = rw f at e in
    let same : Same ≡ c = cc in
    (record { path = path; kind = kind; members = members }, refl, ap (λ (d : ChoiceSpot). d.members) (sym same)))
    (λ f. let is : None ≡ Some c = rw f at e in cc)

-- each of grounded conditions asks a choice or a number
grounded_guard : (scene : Scene) (before gs : List Guard) → are_grounded scene before gs ≡ true → (g : Guard) → In g gs → is_guard scene g ≡ true
grounded_guard scene before [] h g i = absurd i
grounded_guard scene before (x ∷ xs) h g (inl e) =
    let here = left_of (list_all (λ (k : Guard). list_any (same_guard k) before) (guards scene (guard_path x)) && is_guard scene x) (are_grounded scene (x ∷ before) xs) h in
    subst (λ k. is_guard scene k ≡ true) (sym e) (right_of (list_all (λ (k : Guard). list_any (same_guard k) before) (guards scene (guard_path x))) (is_guard scene x) here)
grounded_guard scene before (x ∷ xs) h g (inr i) =
    grounded_guard scene (x ∷ before) xs (right_of (list_all (λ (k : Guard). list_any (same_guard k) before) (guards scene (guard_path x)) && is_guard scene x) (are_grounded scene (x ∷ before) xs) h) g i

-- the conditions of a path are small
guards_small : (scene : Scene) → list_all (λ (s : Spot). are_small_guards s.guards) scene.spots ≡ true → (path : Path) → are_small_guards (guards scene path) ≡ true
guards_small scene h path = by (option_or (spot_at scene path) (option_and_then (λ steps. spot_at scene (path_of steps)) (timed_part path.steps))) refl
  where
    of_spot : (p : Path) (s : Spot) → spot_at scene p ≡ Some s → are_small_guards s.guards ≡ true
    of_spot p s e = all_at (λ (t : Spot). are_small_guards t.guards) scene.spots h s (found_in (λ (t : Spot). same_path t.path p) scene.spots s e).0

    by_or : (a b : Option Spot) (s : Spot) → option_or a b ≡ Some s → (a ≡ Some s) ⊎ (b ≡ Some s)
    by_or None b s e = inr e
    by_or (Some a) b s e = inl e

    timed : (steps : Option (List Step)) (s : Spot) → option_and_then (λ steps. spot_at scene (path_of steps)) steps ≡ Some s → are_small_guards s.guards ≡ true
    timed None s e = cc
    timed (Some steps) s e = of_spot (path_of steps) s e

    by : (o : Option Spot) → option_or (spot_at scene path) (option_and_then (λ steps. spot_at scene (path_of steps)) (timed_part path.steps)) ≡ o
        → are_small_guards (option_map_or (λ s. s.guards) o []) ≡ true
    by None e = refl
    by (Some s) e = elim (by_or (spot_at scene path) (option_and_then (λ steps. spot_at scene (path_of steps)) (timed_part path.steps)) s e) as (λ _. are_small_guards s.guards ≡ true) [
      | inl f ↦ of_spot path s f
      | inr f ↦ timed (timed_part path.steps) s f
    ]

slice_in : {A : Type 0} (xs : List A) (i : ℕ) (x : A) → slice_get xs i ≡ Some x → In x xs
slice_in [] i x h = cc
slice_in (y ∷ ys) zero x h = let e : x ≡ y = cc in inl e
slice_in (y ∷ ys) (suc i) x h = inr (slice_in ys i x h)

module _ (scene : Scene) (expanded : IsExpanded scene) (limited : IsLimited scene) (most : ℕ) (large : 1000000000000000 ≤ most) (wide : (n : ℕ) → nat_lt greatest_part n ≡ false → n ≤ most) where
  abbrev box : List Pair
  box = ends scene expanded limited most large

  abbrev Fit : FlatRule → Type 0
  Fit rule = RuleFits box most rule

  abbrev FitAll : List FlatRule → Type 0
  FitAll rules = AllRules box most rules

  abbrev layed : Layout
  layed = at scene expanded limited most large

  abbrev number : SlotName → ℕ
  number = slot scene expanded limited most large

  field_most : field_reach ≤ most
  field_most = field_small scene expanded limited most large

  -- ---- conditions

  choice_fits : (c : ChoiceSpot) → In c (choices scene) → Fits box most (Slot (number (SlotName.Choice c.path))) field_reach
  choice_fits c i =
      let first = finds (λ (d : ChoiceSpot). same_path d.path c.path) (choices scene) c i (path_self c.path) in
      let known = (found_in (λ (d : ChoiceSpot). same_path d.path c.path) (choices scene) first.0 first.1).0 in
      let s = made_from (λ (s : Spot). choice_spot s.path s.content) scene.spots first.0 known in
      let p = choice_phase s.0.path s.0.content first.0 s.2 in
      let phase : In p.0 (phases scene) = making (λ (s : Spot). phase_spot s.path s.content) scene.spots s.0 p.0 s.1 p.1 in
      let few = le_number (length p.0.members) field_reach (all_at (λ (q : PhaseSpot). nat_le (length q.members) field_reach) (phases scene) limited.few_members p.0 phase) in
      let members : first.0.members ≤ field_reach = subst (λ n. n ≤ field_reach) (sym p.2) few in
      let is : ends_of scene (SlotName.Choice c.path) ≡ pair (pos 0) (pos (first.0.members - 1)) = ap (λ o. option_map_or (λ (d : ChoiceSpot). pair (pos 0) (pos (d.members - 1))) o no_ends) first.1 in
      name_fits scene expanded limited most large (SlotName.Choice c.path) field_reach (choice_named scene c i)
      (subst (λ (e : Pair). unsigned_abs e.low ≤ field_reach) (sym is) (omega (arith, ints))) (subst (λ (e : Pair). unsigned_abs e.high ≤ field_reach) (sym is) (omega (arith, ints))) field_most

  guard_fits : (g : Guard) → is_guard scene g ≡ true → is_small_guard g ≡ true → Fit (guard_rule layed g)
  guard_fits (Guard.Choice phase member) known small =
      let c = any_at (λ (d : ChoiceSpot). same_path d.path phase) (choices scene) known in
      let few = le_number member field_reach small in
      subst (λ q. Fit (Equal (Slot (number (SlotName.Choice q))) (Whole (pos member)))) (path_is c.0.path phase c.2)
      (equal_fits box most (Slot (number (SlotName.Choice c.0.path))) (Whole (pos member)) field_reach field_reach (choice_fits c.0 c.1) (whole_fits box most (pos member) field_reach (omega (arith, ints)) field_most))
  guard_fits (Guard.Value path value) known small = by (value_at scene path) refl known
    where
      by : (o : Option ValueSpot) → value_at scene path ≡ o → option_map_or (λ (v : ValueSpot). is_numeric v.range) o false ≡ true → Fit (Equal (Slot (number (SlotName.Value path))) (Whole value))
      by None e h = absurd (true≢false (sym h))
      by (Some v) e h = equal_fits box most (Slot (number (SlotName.Value path))) (Whole value) field_reach field_reach (value_fits scene expanded limited most large path v e)
          (whole_fits box most value field_reach (small_number value small) field_most)

  pub presence_fit : (gs : List Guard) → are_grounded scene [] gs ≡ true → are_small_guards gs ≡ true → FitAll (presence_rules layed gs)
  presence_fit gs grounded small = mapped box most 0 layed (guard_rule layed) gs (λ g i. guard_fits g (grounded_guard scene [] gs grounded g i) (all_at is_small_guard gs small g i))

  pub there_fit : (path : Path) → FitAll (presence_rules layed (guards scene path))
  there_fit path = presence_fit (guards scene path) (guards_grounded scene expanded.is_scene.spots_grounded path) (guards_small scene limited.spots_small path)

  -- ---- constraints

  abbrev pub Reached : Typed → Type 0
  Reached t = is_sound t && each_read (reading scene expanded limited most large) t ≡ true

  abbrev one_most : 1 ≤ most
  one_most = omega arith

  pub shape_fits : (t : Typed) → is_truth (kind t) ≡ true → Reached t → has_values t ≡ true → Fit (shape layed t).rule
  shape_fits t truth h v = (reaches box most (omega arith) wide layed (reading scene expanded limited most large) (read_fits scene expanded limited most large) (read_one scene expanded limited most large) t
      (left_of (is_sound t) (each_read (reading scene expanded limited most large) t) h) v (right_of (is_sound t) (each_read (reading scene expanded limited most large) t) h)).rule truth

  abbrev Truths : Occurrence → Type 0
  Truths o = option_map_or (λ (t : Typed). is_truth (kind t) && is_expression scene t) o.typed false ≡ true

  constraint_fits : (o : Occurrence) → In o scene.occurrences → Truths o → Fit (typed_rule layed o.typed)
  constraint_fits o i h = by o.typed refl h
    where
      values_of : (t : Typed) → o.typed ≡ Some t → has_values t ≡ true
      values_of t is = all_at has_values (expressions scene) expanded.all_values t
          (in_left t _ _ (in_flat_map (λ (p : Occurrence). option_to_list p.typed) scene.occurrences o t i (subst (λ typed. In t (option_to_list typed)) (sym is) (inl refl))))

      by : (typed : Option Typed) → o.typed ≡ typed → option_map_or (λ (t : Typed). is_truth (kind t) && is_expression scene t) typed false ≡ true → Fit (typed_rule layed typed)
      by None is g = absurd (true≢false (sym g))
      by (Some t) is g =
          let truth = left_of (is_truth (kind t)) (is_expression scene t) g in
          let rest = right_of (is_scalar t) (is_sound t && each_read (reading scene expanded limited most large) t) (right_of (is_truth (kind t)) (is_expression scene t) g) in
          all_fit box most ((shape layed t).rule ∷ []) (single box most 0 layed (shape layed t).rule (shape_fits t truth rest (values_of t is)))

  asked_fit : (o : Occurrence) → In o scene.occurrences → FitAll (presence_rules layed (presence scene o))
  asked_fit o i = presence_fit (presence scene o) (all_at (λ (p : Occurrence). are_grounded scene [] (presence scene p)) scene.occurrences expanded.is_scene.occurrences_grounded o i)
      (all_at (λ (p : Occurrence). are_small_guards (presence scene p)) scene.occurrences limited.occurrences_small o i)

  pub hard_fits : (o : Occurrence) → In o scene.occurrences → Truths o → Fit (hard_rule scene layed o)
  hard_fits o i h = under_fits box most (presence_rules layed (presence scene o)) (typed_rule layed o.typed) (asked_fit o i) (constraint_fits o i h)

  number_fits : (n : ℕ) → Fit (presence_of_number scene layed n)
  number_fits n = by (slice_get scene.occurrences n) refl
    where
      by : (o : Option Occurrence) → slice_get scene.occurrences n ≡ o → Fit (all_of (presence_rules layed (option_map_or (presence scene) o [])))
      by None e = all_fit box most [] (λ r i. absurd i)
      by (Some o) e = all_fit box most (presence_rules layed (presence scene o)) (asked_fit o (slice_in scene.occurrences n o e))

  pub default_fits : (later : List ℕ) (o : Occurrence) → In o scene.occurrences → Truths o → Fit (default_rule scene layed later o)
  default_fits later o i h = under_fits box most (presence_rules layed (presence scene o)) (any_of (map (presence_of_number scene layed) later ++ typed_rule layed o.typed ∷ [])) (asked_fit o i)
      (any_fits box most (map (presence_of_number scene layed) later ++ typed_rule layed o.typed ∷ [])
      (appended box most 0 layed (map (presence_of_number scene layed) later) (typed_rule layed o.typed ∷ []) (mapped box most 0 layed (presence_of_number scene layed) later (λ n j. number_fits n))
      (single box most 0 layed (typed_rule layed o.typed) (constraint_fits o i h))))

  -- ---- enums

  pub enum_fits : (path : Path) (numbers : List ℤ) (v : ValueSpot) → value_at scene path ≡ Some v → In v (values scene) → v.range ≡ ValueRange.Among numbers → Fit (enum_rule scene layed path numbers)
  enum_fits path numbers v known i is =
      let ranged = subst (λ r. is_range r ≡ true) is (all_at (λ (w : ValueSpot). is_range w.range) (values scene) expanded.is_scene.ranges v i) in
      let small = right_of (nat_lt 0 (length numbers)) (list_all is_small numbers) ranged in
      under_fits box most (presence_rules layed (guards scene path)) (member_rule layed path numbers) (there_fit path)
      (any_fits box most (map (λ n. Equal (Slot (number (SlotName.Value path))) (Whole n)) numbers)
      (mapped box most 0 layed (λ n. Equal (Slot (number (SlotName.Value path))) (Whole n)) numbers (λ n j. equal_fits box most (Slot (number (SlotName.Value path))) (Whole n) field_reach field_reach
      (value_fits scene expanded limited most large path v known) (whole_fits box most n field_reach (small_number n (all_at is_small numbers small n j)) field_most))))

  -- ---- phases

  timed : (path : Path) → has_phase scene path ≡ true → Timed box most scene.setting.ticks layed path
  timed path h = record { start = start_fits scene expanded limited most large path h; end = end_fits scene expanded limited most large path h }

  pub phase_fits : (p : PhaseSpot) → In p (phases scene) → Fit (arranged_rule scene layed p)
  phase_fits p i =
      let parts : List FlatRule = AtMost (phase_start layed p.path) (phase_end layed p.path) ∷ kind_rules p.kind layed p.path p.members ++ root_do_rules layed p.path in
      let own = timed p.path (phase_known scene p i) in
      let few = le_number (length p.members) field_reach (all_at (λ (q : PhaseSpot). nat_le (length q.members) field_reach) (phases scene) limited.few_members p i) in
      let known = member_known scene p.kind p (all_at (λ (q : PhaseSpot). are_members scene q q.kind) (phases scene) expanded.is_scene.members p i) in
      let rest = appended box most 0 layed (kind_rules p.kind layed p.path p.members) (root_do_rules layed p.path)
      (kind_fit box most scene.setting.ticks layed field_reach field_most p.kind p.path p.members few (choice p i) own (λ m j. timed m (known m j))) (root_do_fit box most scene.setting.ticks layed p.path own) in
      all_fit box most (map (under (presence_rules layed (guards scene p.path))) parts)
      (mapped box most 0 layed (under (presence_rules layed (guards scene p.path))) parts (λ r j. under_fits box most (presence_rules layed (guards scene p.path)) r (there_fit p.path)
      (appended box most 0 layed (AtMost (phase_start layed p.path) (phase_end layed p.path) ∷ []) (kind_rules p.kind layed p.path p.members ++ root_do_rules layed p.path)
      (single box most 0 layed (AtMost (phase_start layed p.path) (phase_end layed p.path)) (at_most_fits box most (phase_start layed p.path) (phase_end layed p.path) scene.setting.ticks scene.setting.ticks own.start own.end)) rest r j)))
    where
      choice : (q : PhaseSpot) → In q (phases scene) → q.kind ≡ PhaseKind.OneOf → Fits box most (Slot (number (SlotName.Choice q.path))) field_reach
      choice q j k =
          let m = made_from (λ (s : Spot). phase_spot s.path s.content) scene.spots q j in
          let c = one_of_choice m.0.path m.0.content q m.2 k in
          subst (λ r. Fits box most (Slot (number (SlotName.Choice r))) field_reach) c.2 (choice_fits c.0 (making (λ (s : Spot). choice_spot s.path s.content) scene.spots m.0 c.0 m.1 c.1))
