-- Within each sort of spots a path stands once.
use Rattle.std.proofs.Common.{◌≡◌, ℕ, refl, sym, ap, ◌∙◌, subst, inl, inr, List, [], ◌∷◌, Bool, true, false, not, cond, Option, Some, None, map, length, true≢false}
use Rattle.std.specs.Prelude.{filter_map, option_and_then}
use Rattle.std.specs.Option.{option_map_or, option_or}
use Rattle.std.specs.List.{list_any, cons_option}
use Rattle.field_flatten.specs.osc_base.declared.path.Path.{Path}
use Rattle.field_flatten.specs.osc_base.Paths.{same_path, path_of, timed_part}
use Rattle.expansion_laws.specs.type_heads.Types.{Types, Field}
use Rattle.expansion_laws.specs.type_heads.Members.{fields}
use Rattle.expansion_laws.specs.composition.declared.setting.Setting.{Setting}
use Rattle.expansion_laws.specs.composition.declared.spot.ChoiceSpot.{ChoiceSpot}
use Rattle.expansion_laws.specs.composition.declared.spot.ValueSpot.{ValueSpot}
use Rattle.expansion_laws.specs.composition.declared.spot.PhaseSpot.{PhaseSpot}
use Rattle.expansion_laws.specs.composition.Scenes.{Content, Spot, is_one_of, choice_spot, value_spot, phase_spot, vehicle_spot, choices, values, phases, vehicles, spot_at, guards}
use Rattle.expansion_laws.specs.composition.Expansion.{expansion}
use Rattle.expansion_laws.specs.composition.Expanded.{scene, spots_of}
use Rattle.expansion_laws.specs.composition.Invariants.{are_distinct}
use Rattle.field_flatten.proofs.Tests.{both, two_ways, In, map_in, any_at, path_is, path_self, finds, found_in}
use Rattle.scene_laws.specs.Premises.{is_free}
use Rattle.scene_laws.proofs.FaultRows.{not_so}
use Rattle.scene_laws.proofs.Picked.{filter_map_in}
use Rattle.scene_laws.proofs.FieldNames.{Pairs, NamesDiffer}
use Rattle.scene_laws.proofs.ApartSpots.{same_sort, Apart, whole_expansion}

-- what is picked of a spot has the spot's path, and the spot is of one sort
record Picks {X : Type 0} (pick : Spot → Option X) (path : X → Path) (sort : Content → Bool) : Type 0 where
  here : (s : Spot) (x : X) → pick s ≡ Some x → path x ≡ s.path
  one : (s : Spot) (x : X) → pick s ≡ Some x → sort s.content ≡ true
  same : (c d : Content) → sort c ≡ true → sort d ≡ true → same_sort c d ≡ true

module _ {X : Type 0} (pick : Spot → Option X) (path : X → Path) (sort : Content → Bool) (picks : Picks pick path sort) where
  alone : (s : Spot) (x : X) → pick s ≡ Some x → (ss : List Spot) → ((u : Spot) → In u ss → Apart s u) → list_any (same_path (path x)) (map path (filter_map pick ss)) ≡ false
  alone s x e ss f = two_ways (list_any (same_path (path x)) (map path (filter_map pick ss))) (λ h. absurd (never h)) (λ h. h)
    where
      never : list_any (same_path (path x)) (map path (filter_map pick ss)) ≡ true → ⊥
      never h =
          let a = any_at (same_path (path x)) (map path (filter_map pick ss)) h in
          let m = map_in path (filter_map pick ss) a.0 a.1 in
          let g = filter_map_in pick ss m.0 m.1 in
          let two = f g.0 g.1 (sym (picks.here s x e) ∙ path_is (path x) a.0 a.2 ∙ m.2 ∙ picks.here g.0 m.0 g.2) in
          true≢false (sym (picks.same s.content g.0.content (picks.one s x e) (picks.one g.0 m.0 g.2)) ∙ two.0)

  distinct_picked : (ss : List Spot) → Pairs Apart ss → are_distinct (map path (filter_map pick ss)) ≡ true
  distinct_picked [] p = refl
  distinct_picked (s ∷ ss) p = by (pick s) refl (distinct_picked ss p.1)
    where
      by : (o : Option X) → pick s ≡ o → are_distinct (map path (filter_map pick ss)) ≡ true → are_distinct (map path (cons_option o (filter_map pick ss))) ≡ true
      by None e rest = rest
      by (Some x) e rest = both (not (list_any (same_path (path x)) (map path (filter_map pick ss)))) (are_distinct (map path (filter_map pick ss))) (not_so _ (alone s x e ss p.0)) rest

-- spots at one path have the same conditions
pub same_conditions : (ss : List Spot) → Pairs Apart ss → (s u : Spot) → In s ss → In u ss → s.path ≡ u.path → s.guards ≡ u.guards
same_conditions [] p s u i j same = absurd i
same_conditions (x ∷ xs) p s u (inl e) (inl f) same = ap (λ (z : Spot). z.guards) (e ∙ sym f)
same_conditions (x ∷ xs) p s u (inl e) (inr j) same = ap (λ (z : Spot). z.guards) e ∙ (p.0 u j (sym (ap (λ (z : Spot). z.path) e) ∙ same)).1
same_conditions (x ∷ xs) p s u (inr i) (inl f) same = sym ((p.0 s i (sym (ap (λ (z : Spot). z.path) f) ∙ sym same)).1) ∙ sym (ap (λ (z : Spot). z.guards) f)
same_conditions (x ∷ xs) p s u (inr i) (inr j) same = same_conditions xs p.1 s u i j same

-- ---- sorts

abbrev is_object_content : Content → Bool
is_object_content (Content.Object v) = true
is_object_content _ = false

abbrev is_value_content : Content → Bool
is_value_content (Content.Value r) = true
is_value_content _ = false

abbrev is_phase_content : Content → Bool
is_phase_content (Content.Phase k ms) = true
is_phase_content _ = false

objects_same : (c d : Content) → is_object_content c ≡ true → is_object_content d ≡ true → same_sort c d ≡ true
objects_same (Content.Object a) (Content.Object b) p q = refl
objects_same (Content.Object a) (Content.Value b) p q = absurd (true≢false (sym q))
objects_same (Content.Object a) (Content.Phase b ms) p q = absurd (true≢false (sym q))
objects_same (Content.Value a) d p q = absurd (true≢false (sym p))
objects_same (Content.Phase a ms) d p q = absurd (true≢false (sym p))

values_same : (c d : Content) → is_value_content c ≡ true → is_value_content d ≡ true → same_sort c d ≡ true
values_same (Content.Value a) (Content.Value b) p q = refl
values_same (Content.Value a) (Content.Object b) p q = absurd (true≢false (sym q))
values_same (Content.Value a) (Content.Phase b ms) p q = absurd (true≢false (sym q))
values_same (Content.Object a) d p q = absurd (true≢false (sym p))
values_same (Content.Phase a ms) d p q = absurd (true≢false (sym p))

phases_same : (c d : Content) → is_phase_content c ≡ true → is_phase_content d ≡ true → same_sort c d ≡ true
phases_same (Content.Phase a ms) (Content.Phase b ns) p q = refl
phases_same (Content.Phase a ms) (Content.Object b) p q = absurd (true≢false (sym q))
phases_same (Content.Phase a ms) (Content.Value b) p q = absurd (true≢false (sym q))
phases_same (Content.Object a) d p q = absurd (true≢false (sym p))
phases_same (Content.Value a) d p q = absurd (true≢false (sym p))

pick_choice : Picks (λ (s : Spot). choice_spot s.path s.content) (λ (c : ChoiceSpot). c.path) is_phase_content
pick_choice = record { here = λ s c e. here s.path s.content c e; one = λ s c e. one s.path s.content c e; same = phases_same }
  where
    at : (p : Path) (b : Bool) (n : ℕ) (c : ChoiceSpot) → cond b (Some (record { path = p; members = n })) None ≡ Some c → c.path ≡ p
    at p true n c e = let same : record { path = p; members = n } ≡ c = cc in sym (ap (λ (z : ChoiceSpot). z.path) same)
    at p false n c e = cc

    here : (p : Path) (content : Content) (c : ChoiceSpot) → choice_spot p content ≡ Some c → c.path ≡ p
    here p (Content.Phase k ms) c e = at p (is_one_of k) (length ms) c e
    here p (Content.Object v) c e = cc
    here p (Content.Value r) c e = cc

    one : (p : Path) (content : Content) (c : ChoiceSpot) → choice_spot p content ≡ Some c → is_phase_content content ≡ true
    one p (Content.Phase k ms) c e = refl
    one p (Content.Object v) c e = cc
    one p (Content.Value r) c e = cc

pick_value : Picks (λ (s : Spot). value_spot s.path s.content) (λ (v : ValueSpot). v.path) is_value_content
pick_value = record { here = λ s c e. here s.path s.content c e; one = λ s c e. one s.path s.content c e; same = values_same }
  where
    here : (p : Path) (content : Content) (c : ValueSpot) → value_spot p content ≡ Some c → c.path ≡ p
    here p (Content.Value r) c e = let same : record { path = p; range = r } ≡ c = cc in sym (ap (λ (z : ValueSpot). z.path) same)
    here p (Content.Object v) c e = cc
    here p (Content.Phase k ms) c e = cc

    one : (p : Path) (content : Content) (c : ValueSpot) → value_spot p content ≡ Some c → is_value_content content ≡ true
    one p (Content.Value r) c e = refl
    one p (Content.Object v) c e = cc
    one p (Content.Phase k ms) c e = cc

pick_phase : Picks (λ (s : Spot). phase_spot s.path s.content) (λ (p : PhaseSpot). p.path) is_phase_content
pick_phase = record { here = λ s c e. here s.path s.content c e; one = λ s c e. one s.path s.content c e; same = phases_same }
  where
    here : (p : Path) (content : Content) (c : PhaseSpot) → phase_spot p content ≡ Some c → c.path ≡ p
    here p (Content.Phase k ms) c e = let same : record { path = p; kind = k; members = ms } ≡ c = cc in sym (ap (λ (z : PhaseSpot). z.path) same)
    here p (Content.Object v) c e = cc
    here p (Content.Value r) c e = cc

    one : (p : Path) (content : Content) (c : PhaseSpot) → phase_spot p content ≡ Some c → is_phase_content content ≡ true
    one p (Content.Phase k ms) c e = refl
    one p (Content.Object v) c e = cc
    one p (Content.Value r) c e = cc

pick_vehicle : Picks (λ (s : Spot). vehicle_spot s.path s.content) (λ (p : Path). p) is_object_content
pick_vehicle = record { here = λ s c e. here s.path s.content c e; one = λ s c e. one s.path s.content c e; same = objects_same }
  where
    at : (p : Path) (b : Bool) (c : Path) → cond b (Some p) None ≡ Some c → c ≡ p
    at p true c e = let same : p ≡ c = cc in sym same
    at p false c e = cc

    here : (p : Path) (content : Content) (c : Path) → vehicle_spot p content ≡ Some c → c ≡ p
    here p (Content.Object v) c e = at p v c e
    here p (Content.Phase k ms) c e = cc
    here p (Content.Value r) c e = cc

    one : (p : Path) (content : Content) (c : Path) → vehicle_spot p content ≡ Some c → is_object_content content ≡ true
    one p (Content.Object v) c e = refl
    one p (Content.Phase k ms) c e = cc
    one p (Content.Value r) c e = cc

map_self : (ps : List Path) → map (λ (p : Path). p) ps ≡ ps
map_self [] = refl
map_self (p ∷ ps) = ap (λ l. p ∷ l) (map_self ps)

module _ (ts : Types) (names : (t : ℕ) → Pairs NamesDiffer (fields ts t)) (free : (t : ℕ) (f : Field) → In f (fields ts t) → is_free f.name.text ≡ true) (t : ℕ) (setting : Setting) where
  apart : Pairs Apart (spots_of ts (expansion ts t))
  apart = (whole_expansion ts names free t).apart

  -- the conditions at the path of a spot are the spot's
  pub spot_guards : (s : Spot) → In s (spots_of ts (expansion ts t)) → guards (scene ts t setting) s.path ≡ s.guards
  spot_guards s i =
      let f = finds (λ (u : Spot). same_path u.path s.path) (spots_of ts (expansion ts t)) s i (path_self s.path) in
      let g = found_in (λ (u : Spot). same_path u.path s.path) (spots_of ts (expansion ts t)) f.0 f.1 in
      ap (λ o. option_map_or (λ (u : Spot). u.guards) (option_or o (option_and_then (λ steps. spot_at (scene ts t setting) (path_of steps)) (timed_part s.path.steps))) []) f.1
      ∙ same_conditions (spots_of ts (expansion ts t)) apart f.0 s g.0 i (path_is f.0.path s.path g.1)

  pub choices_distinct : are_distinct (map (λ (c : ChoiceSpot). c.path) (choices (scene ts t setting))) ≡ true
  choices_distinct = distinct_picked (λ (s : Spot). choice_spot s.path s.content) (λ (c : ChoiceSpot). c.path) is_phase_content pick_choice (spots_of ts (expansion ts t)) apart

  pub values_distinct : are_distinct (map (λ (v : ValueSpot). v.path) (values (scene ts t setting))) ≡ true
  values_distinct = distinct_picked (λ (s : Spot). value_spot s.path s.content) (λ (v : ValueSpot). v.path) is_value_content pick_value (spots_of ts (expansion ts t)) apart

  pub phases_distinct : are_distinct (map (λ (p : PhaseSpot). p.path) (phases (scene ts t setting))) ≡ true
  phases_distinct = distinct_picked (λ (s : Spot). phase_spot s.path s.content) (λ (p : PhaseSpot). p.path) is_phase_content pick_phase (spots_of ts (expansion ts t)) apart

  pub vehicles_distinct : are_distinct (vehicles (scene ts t setting)) ≡ true
  vehicles_distinct = subst (λ ps. are_distinct ps ≡ true) (map_self (vehicles (scene ts t setting)))
      (distinct_picked (λ (s : Spot). vehicle_spot s.path s.content) (λ (p : Path). p) is_object_content pick_vehicle (spots_of ts (expansion ts t)) apart)
