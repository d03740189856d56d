-- What the run that numbers of slots say holds at a path.
use Rattle.std.proofs.Common.{◌≡◌, ℕ, zero, suc, ◌+◌, ◌<◌, ◌≤◌, refl, sym, ap, ◌∙◌, subst, List, [], ◌∷◌, Bool, true, false, cond, Option, Some, None, map, arith, true≢false}
use Rattle.std.specs.Prelude.{ℤ, pos, ◌≤ℤ◌, nat_eq, option_map, option_and_then, find, filter, slice_get, unsigned_abs}
use Rattle.std.specs.Option.{option_map_or}
use Rattle.std.specs.List.{list_any, range_with_len}
use Rattle.std.proofs.lemmas.Int.{ints}
use Rattle.osc_base.specs.declared.path.Path.{Path}
use Rattle.osc_base.specs.declared.listing.SlotName.{SlotName}
use Rattle.osc_base.specs.Comparisons.{same_number}
use Rattle.osc_base.specs.Paths.{same_path}
use Rattle.composition.specs.declared.guard.Guard.{Guard}
use Rattle.composition.specs.declared.spot.ChoiceSpot.{ChoiceSpot}
use Rattle.composition.specs.declared.spot.ValueSpot.{ValueSpot}
use Rattle.composition.specs.declared.spot.ValueRange.{ValueRange}
use Rattle.composition.specs.declared.spot.PhaseSpot.{PhaseSpot}
use Rattle.composition.specs.declared.run.Choice.{Choice}
use Rattle.composition.specs.declared.run.Span.{Span}
use Rattle.composition.specs.declared.run.Value.{Value}
use Rattle.composition.specs.declared.run.Trace.{Trace}
use Rattle.composition.specs.declared.run.Run.{Run}
use Rattle.composition.specs.RunParts.{choice_in, held_in, span_in, sample_in}
use Rattle.composition.specs.Scenes.{Scene, choices, values, phases, vehicles, has_phase}
use Rattle.composition.specs.There.{is_met, is_number}
use Rattle.composition.specs.Invariants.{is_guard, guard_path, value_at, is_numeric}
use Rattle.field_flatten.specs.Points.{is_held, stands, choice_of, span_of, held_of, sample_named, end_named, run_named}
use Rattle.field_flatten.proofs.Tests.{two_ways, path_is, any_at, found_in, finds}

-- ---- the first entry of a list of what is kept

module _ {A B : Type 0} (key : A → Path) (key_of : B → Path) (make : A → B) (keyed : (a : A) → key_of (make a) ≡ key a) (keep : Path → Bool) (path : Path) where
  abbrev Kept : List A → Option B
  Kept xs = find (λ b. same_path (key_of b) path) (map make (filter (λ a. keep (key a)) xs))

  abbrev First : List A → Option B
  First xs = cond (keep path) (option_map make (find (λ a. same_path (key a) path) xs)) None

  kept : (x : A) (xs : List A) → keep (key x) ≡ true → Kept xs ≡ First xs
      → find (λ b. same_path (key_of b) path) (make x ∷ map make (filter (λ a. keep (key a)) xs)) ≡ First (x ∷ xs)
  kept x xs e rest = two_ways (same_path (key x) path)
      (λ f. let here : keep path ≡ true = subst (λ p. keep p ≡ true) (path_is (key x) path f) e in rw (keyed x, f, here) refl)
      (λ f. rw (keyed x, f) rest)

  left_out : (x : A) (xs : List A) → keep (key x) ≡ false → Kept xs ≡ First xs → Kept xs ≡ First (x ∷ xs)
  left_out x xs e rest = two_ways (same_path (key x) path)
      (λ f. let here : keep path ≡ false = subst (λ p. keep p ≡ false) (path_is (key x) path f) e in rest ∙ rw here refl)
      (λ f. rw f rest)

  pub kept_entry : (xs : List A) → Kept xs ≡ First xs
  kept_entry [] = two_ways (keep path) (λ e. rw e refl) (λ e. rw e refl)
  kept_entry (x ∷ xs) = two_ways (keep (key x)) (λ e. rw e (kept x xs e (kept_entry xs))) (λ e. rw e (left_out x xs e (kept_entry xs)))

-- ---- samples

slice_counted : {A : Type 0} (f : ℕ → A) (from n t : ℕ) → t < n → slice_get (map f (range_with_len from n)) t ≡ Some (f (from + t))
slice_counted f from zero t h = absurd (omega arith)
slice_counted f from (suc n) zero h = let e : from ≡ from + 0 = omega arith in ap (λ k. Some (f k)) e
slice_counted f from (suc n) (suc t) h = let e : from + 1 + t ≡ from + suc t = omega arith in slice_counted f (from + 1) n t (omega arith) ∙ ap (λ k. Some (f k)) e

-- ---- the run of numbers

module _ (scene : Scene) (at : SlotName → ℤ) where
  abbrev pub run : Run
  run = run_named scene at

  pub choice_there : (path : Path) → stands scene at path ≡ true → list_any (λ (c : ChoiceSpot). same_path c.path path) (choices scene) ≡ true
      → choice_in run path ≡ Some (unsigned_abs (at (SlotName.Choice path)))
  choice_there path there known =
      let known_at = any_at (λ (c : ChoiceSpot). same_path c.path path) (choices scene) known in
      let first = finds (λ (c : ChoiceSpot). same_path c.path path) (choices scene) known_at.0 known_at.1 known_at.2 in
      let is = path_is first.0.path path (found_in (λ (c : ChoiceSpot). same_path c.path path) (choices scene) first.0 first.1).1 in
      ap (option_map (λ (c : Choice). c.member))
      (kept_entry (λ (c : ChoiceSpot). c.path) (λ (c : Choice). c.path) (λ (c : ChoiceSpot). choice_of at c.path) (λ a. refl) (stands scene at) path (choices scene)
      ∙ ap (λ b. cond b (option_map (λ (c : ChoiceSpot). choice_of at c.path) (find (λ (c : ChoiceSpot). same_path c.path path) (choices scene))) None) there
      ∙ ap (option_map (λ (c : ChoiceSpot). choice_of at c.path)) first.1)
      ∙ ap (λ p. Some (unsigned_abs (at (SlotName.Choice p)))) is

  pub span_there : (path : Path) → stands scene at path ≡ true → has_phase scene path ≡ true → span_in run path ≡ Some (span_of at path)
  span_there path there known =
      let known_at = any_at (λ (p : PhaseSpot). same_path p.path path) (phases scene) known in
      let first = finds (λ (p : PhaseSpot). same_path p.path path) (phases scene) known_at.0 known_at.1 known_at.2 in
      let is = path_is first.0.path path (found_in (λ (p : PhaseSpot). same_path p.path path) (phases scene) first.0 first.1).1 in
      kept_entry (λ (p : PhaseSpot). p.path) (λ (s : Span). s.path) (λ (p : PhaseSpot). span_of at p.path) (λ a. refl) (stands scene at) path (phases scene)
      ∙ ap (λ b. cond b (option_map (λ (p : PhaseSpot). span_of at p.path) (find (λ (p : PhaseSpot). same_path p.path path) (phases scene))) None) there
      ∙ ap (option_map (λ (p : PhaseSpot). span_of at p.path)) first.1
      ∙ ap (λ p. Some (span_of at p)) is

  abbrev pub value_named : ValueSpot → Value
  value_named v = record { path = v.path; held = held_of scene.texts v.range (at (SlotName.Value v.path)) }

  pub held_there : (path : Path) (v : ValueSpot) → stands scene at path ≡ true → value_at scene path ≡ Some v → held_in run path ≡ Some (held_of scene.texts v.range (at (SlotName.Value path)))
  held_there path v there known =
      let is = path_is v.path path (found_in (λ (w : ValueSpot). same_path w.path path) (values scene) v known).1 in
      ap (option_map (λ (w : Value). w.held))
      (kept_entry (λ (w : ValueSpot). w.path) (λ (w : Value). w.path) value_named (λ a. refl) (stands scene at) path (values scene)
      ∙ ap (λ b. cond b (option_map value_named (find (λ (w : ValueSpot). same_path w.path path) (values scene))) None) there
      ∙ ap (option_map value_named) known)
      ∙ ap (λ p. Some (held_of scene.texts v.range (at (SlotName.Value p)))) is

  abbrev pub trace_named : Path → Trace
  trace_named v = record { path = v; samples = map (sample_named at v) (range_with_len 0 (end_named scene at + 1)) }

  pub sample_there : (vehicle : Path) (tick : ℕ) → stands scene at vehicle ≡ true → list_any (λ v. same_path v vehicle) (vehicles scene) ≡ true → tick ≤ end_named scene at
      → sample_in run vehicle tick ≡ Some (sample_named at vehicle tick)
  sample_there vehicle tick there known small =
      let known_at = any_at (λ v. same_path v vehicle) (vehicles scene) known in
      let first = finds (λ v. same_path v vehicle) (vehicles scene) known_at.0 known_at.1 known_at.2 in
      let is = path_is first.0 vehicle (found_in (λ v. same_path v vehicle) (vehicles scene) first.0 first.1).1 in
      ap (λ o. option_and_then (λ samples. slice_get samples tick) (option_map (λ (t : Trace). t.samples) o))
      (kept_entry (λ v. v) (λ (t : Trace). t.path) trace_named (λ a. refl) (stands scene at) vehicle (vehicles scene)
      ∙ ap (λ b. cond b (option_map trace_named (find (λ v. same_path v vehicle) (vehicles scene))) None) there
      ∙ ap (option_map trace_named) first.1)
      ∙ ap (λ p. slice_get (map (sample_named at p) (range_with_len 0 (end_named scene at + 1))) tick) is
      ∙ slice_counted (sample_named at vehicle) 0 (end_named scene at + 1) tick (omega arith) ∙ ap (λ k. Some (sample_named at vehicle k)) (let e : 0 + tick ≡ tick = omega arith in e)

  -- ---- conditions

  pub met_is_held : ((path : Path) → pos 0 ≤ℤ at (SlotName.Choice path)) → (g : Guard) → is_guard scene g ≡ true → stands scene at (guard_path g) ≡ true → is_met run g ≡ is_held at g
  met_is_held above (Guard.Choice phase member) known there =
      ap (λ o. option_map_or (nat_eq member) o false) (choice_there phase there known) ∙ by (at (SlotName.Choice phase)) (above phase)
    where
      by : (z : ℤ) → pos 0 ≤ℤ z → nat_eq member (unsigned_abs z) ≡ same_number z (pos member)
      by z h = grind (arith, ints)
  met_is_held above (Guard.Value path value) known there = by (value_at scene path) refl known
    where
      numeric : (range : ValueRange) (z : ℤ) → is_numeric range ≡ true → is_number value (held_of scene.texts range z) ≡ same_number z value
      numeric (ValueRange.Between low high) z h = refl
      numeric (ValueRange.Among numbers) z h = refl
      numeric ValueRange.Chars z h = absurd (true≢false (sym h))

      by : (o : Option ValueSpot) → value_at scene path ≡ o → option_map_or (λ (v : ValueSpot). is_numeric v.range) o false ≡ true
          → option_map_or (is_number value) (held_in run path) false ≡ same_number (at (SlotName.Value path)) value
      by None e h = absurd (true≢false (sym h))
      by (Some v) e h = ap (λ o. option_map_or (is_number value) o false) (held_there path v there e) ∙ numeric v.range (at (SlotName.Value path)) h
