-- The run of the point of a run is that run, if all claims but those of hard constraints hold in it.
use Rattle.std.proofs.Common.{◌≡◌, ℕ, zero, suc, ◌+◌, ◌≤◌, refl, sym, ap, ap₂, ◌∙◌, subst, inl, inr, List, [], ◌∷◌, Bool, true, false, ◌&&◌, ◌||◌, not, Option, Some, None, map, length, arith, true≢false}
use Rattle.std.specs.Prelude.{ℤ, pos, filter, nat_eq, nat_le, option_map, option_and_then, slice_get, unwrap_or, unsigned_abs, bytes_eq}
use Rattle.std.specs.Option.{option_map_or}
use Rattle.std.specs.List.{list_any, list_all, range_with_len}
use Rattle.std.proofs.lemmas.Int.{ints}
use Rattle.std.proofs.lemmas.Bool.{cond-true, cond-false}
use Rattle.std.proofs.lemmas.Slice.Eq.{bytes_eq-Decides}
use Rattle.osc_base.specs.declared.path.Path.{Path}
use Rattle.osc_base.specs.declared.sample.Sample.{Sample}
use Rattle.osc_base.specs.declared.listing.SlotName.{SlotName}
use Rattle.osc_base.specs.Comparisons.{same_number}
use Rattle.osc_base.specs.Paths.{same_path}
use Rattle.composition.specs.declared.guard.Guard.{Guard}
use Rattle.composition.specs.declared.spot.ChoiceSpot.{ChoiceSpot}
use Rattle.composition.specs.declared.spot.ValueSpot.{ValueSpot}
use Rattle.composition.specs.declared.spot.ValueRange.{ValueRange}
use Rattle.composition.specs.declared.spot.PhaseSpot.{PhaseSpot}
use Rattle.composition.specs.declared.run.Held.{Held}
use Rattle.composition.specs.declared.run.Choice.{Choice}
use Rattle.composition.specs.declared.run.Span.{Span}
use Rattle.composition.specs.declared.run.Value.{Value}
use Rattle.composition.specs.declared.run.Trace.{Trace}
use Rattle.composition.specs.declared.run.Run.{Run}
use Rattle.composition.specs.RunParts.{choice_in, held_in, span_in, sample_in}
use Rattle.composition.specs.Scenes.{Scene, choices, values, phases, vehicles, guards, has_root_do, root_do}
use Rattle.composition.specs.There.{is_number, is_met, is_there}
use Rattle.composition.specs.Numbers.{text_number, number_of}
use Rattle.composition.specs.Ranges.{in_range}
use Rattle.composition.specs.Claims.{ends_with_root_do}
use Rattle.composition.specs.Items.{typed_holds}
use Rattle.composition.specs.Slots.{slot_names}
use Rattle.composition.specs.Invariants.{is_guard, guard_path, value_at, is_numeric, are_distinct}
use Rattle.field_flatten.specs.Ends.{ends_of}
use Rattle.field_flatten.specs.Points.{slot_value, is_held, stands, choice_of, span_of, held_of, sample_named, end_named, run_named, run_of, point_of}
use Rattle.field_flatten.specs.Exactness.{IsExpanded}
use Rattle.field_flatten.proofs.Tests.{left_of, right_of, two_ways, path_is, number_is, In, map_same, any_at, filter_same, in_filter, found_in, finds}
use Rattle.field_flatten.proofs.Presence.{guards_grounded, presence_law}
use Rattle.field_flatten.proofs.NamedRun.{value_named, trace_named}
use Rattle.field_flatten.proofs.SlotLaw.{choice_named, start_named, end_is_named, value_is_named, sample_is_named, at_position}
use Rattle.field_flatten.proofs.ItemLaw.{distinct_found}
use Rattle.field_flatten.proofs.ListedRun.{Framed, entry_there, spot_there, first_entry, rebuilt, choices_listed, values_listed, phases_listed, traces_listed, trace_long, value_bounded}
use Rattle.field_flatten.proofs.PointOfRun.{placed, named_filled, some_less}

-- ---- lists

keys_kept : {A : Type 0} (key : A → Path) (keep : Path → Bool) (xs : List A) → map key (filter (λ a. keep (key a)) xs) ≡ filter keep (map key xs)
keys_kept key keep [] = refl
keys_kept key keep (x ∷ xs) = two_ways (keep (key x)) (λ e. rw e (ap (λ ps. key x ∷ ps) (keys_kept key keep xs))) (λ e. rw e (keys_kept key keep xs))

twice : {A B : Type 0} (key : A → Path) (mk : Path → B) (xs : List A) → map (λ a. mk (key a)) xs ≡ map mk (map key xs)
twice key mk [] = refl
twice key mk (x ∷ xs) = ap (λ ys. mk (key x) ∷ ys) (twice key mk xs)

samples_are : {A : Type 0} (f : ℕ → A) (from n : ℕ) (xs : List A) → length xs ≡ n → ((k : ℕ) (x : A) → slice_get xs k ≡ Some x → f (from + k) ≡ x) → map f (range_with_len from n) ≡ xs
samples_are f from zero [] h g = refl
samples_are f from zero (x ∷ xs) h g = absurd (omega arith)
samples_are f from (suc n) [] h g = absurd (omega arith)
samples_are f from (suc n) (x ∷ xs) h g =
    let here : from ≡ from + 0 = omega arith in
    ap₂ (◌∷◌) (ap f here ∙ g 0 x refl)
    (samples_are f (from + 1) n xs (omega arith) (λ k y e. let next : from + 1 + k ≡ from + suc k = omega arith in ap f next ∙ g (suc k) y e))

-- ---- the run of the point

module _ (scene : Scene) (expanded : IsExpanded scene) (run : Run) (framed : Framed scene run) where
  abbrev named : SlotName → ℤ
  named = slot_value scene (point_of scene run)

  abbrev there : Path → Bool
  there = is_there scene run

  -- ---- what is read

  choice_entry : (c : Choice) → In c run.choices → choice_in run c.path ≡ Some c.member
  choice_entry c i = ap (option_map (λ (d : Choice). d.member))
      (first_entry ChoiceSpot Choice (λ d. d.path) (λ d. d.path) there (choices scene) run.choices (choices_listed scene run framed) expanded.is_scene.choices_distinct c i)

  choice_number : (c : Choice) → In c run.choices → named (SlotName.Choice c.path) ≡ pos c.member
  choice_number c i =
      let s = spot_there ChoiceSpot Choice (λ d. d.path) (λ d. d.path) there (choices scene) run.choices (choices_listed scene run framed) c i in
      named_filled scene expanded run framed (SlotName.Choice c.path) (subst (λ p. In (SlotName.Choice p) (slot_names scene)) (sym s.2) (choice_named scene s.0 s.1))
      ∙ ap (λ o. unwrap_or (option_map pos o) (ends_of scene (SlotName.Choice c.path)).low) (choice_entry c i)

  span_entry : (s : Span) → In s run.phases → span_in run s.path ≡ Some s
  span_entry s i = first_entry PhaseSpot Span (λ p. p.path) (λ p. p.path) there (phases scene) run.phases (phases_listed scene run framed) expanded.is_scene.phases_distinct s i

  span_start : (s : Span) → In s run.phases → named (SlotName.Start s.path) ≡ pos s.start
  span_start s i =
      let p = spot_there PhaseSpot Span (λ q. q.path) (λ q. q.path) there (phases scene) run.phases (phases_listed scene run framed) s i in
      named_filled scene expanded run framed (SlotName.Start s.path) (subst (λ q. In (SlotName.Start q) (slot_names scene)) (sym p.2) (start_named scene p.0 p.1))
      ∙ ap (λ o. unwrap_or (option_map (λ (t : Span). pos t.start) o) (ends_of scene (SlotName.Start s.path)).low) (span_entry s i)

  span_end : (s : Span) → In s run.phases → named (SlotName.End s.path) ≡ pos s.end
  span_end s i =
      let p = spot_there PhaseSpot Span (λ q. q.path) (λ q. q.path) there (phases scene) run.phases (phases_listed scene run framed) s i in
      named_filled scene expanded run framed (SlotName.End s.path) (subst (λ q. In (SlotName.End q) (slot_names scene)) (sym p.2) (end_is_named scene p.0 p.1))
      ∙ ap (λ o. unwrap_or (option_map (λ (t : Span). pos t.end) o) (ends_of scene (SlotName.End s.path)).low) (span_entry s i)

  value_known : (v : ValueSpot) → In v (values scene) → value_at scene v.path ≡ Some v
  value_known v i = distinct_found (λ (w : ValueSpot). w.path) (values scene) expanded.is_scene.values_distinct v i

  value_entry : (v : Value) → In v run.values → held_in run v.path ≡ Some v.held
  value_entry v i = ap (option_map (λ (w : Value). w.held))
      (first_entry ValueSpot Value (λ w. w.path) (λ w. w.path) there (values scene) run.values (values_listed scene run framed) expanded.is_scene.values_distinct v i)

  value_number : (v : Value) → In v run.values → named (SlotName.Value v.path) ≡ unwrap_or (number_of scene.texts v.held) (ends_of scene (SlotName.Value v.path)).low
  value_number v i =
      let s = spot_there ValueSpot Value (λ w. w.path) (λ w. w.path) there (values scene) run.values (values_listed scene run framed) v i in
      named_filled scene expanded run framed (SlotName.Value v.path) (subst (λ p. In (SlotName.Value p) (slot_names scene)) (sym s.2) (value_is_named scene s.0 s.1))
      ∙ ap (λ o. unwrap_or (option_and_then (number_of scene.texts) o) (ends_of scene (SlotName.Value v.path)).low) (value_entry v i)

  value_range : (v : Value) → In v run.values → (s : ValueSpot) → In s (values scene) → v.path ≡ s.path → in_range scene.texts s.range v.held ≡ true
  value_range v i s j is =
      sym (ap (λ o. option_map_or (λ (spot : ValueSpot). in_range scene.texts spot.range v.held) o false) (ap (value_at scene) is ∙ value_known s j)) ∙ value_bounded scene run framed v i

  -- ---- conditions

  agree : (g : Guard) → is_guard scene g ≡ true → list_all (is_held named) (guards scene (guard_path g)) ≡ true → list_all (is_met run) (guards scene (guard_path g)) ≡ true → is_held named g ≡ is_met run g
  agree (Guard.Choice phase member) known a b =
      let c = any_at (λ (d : ChoiceSpot). same_path d.path phase) (choices scene) known in
      let is = path_is c.0.path phase c.2 in
      let e = entry_there ChoiceSpot Choice (λ d. d.path) (λ d. d.path) there (choices scene) run.choices (choices_listed scene run framed) c.0 c.1 (subst (λ p. there p ≡ true) (sym is) b) in
      let path : e.0.path ≡ phase = sym e.2 ∙ is in
      subst (λ p. same_number (named (SlotName.Choice p)) (pos member) ≡ option_map_or (nat_eq member) (choice_in run p) false) path
      (ap (λ z. same_number z (pos member)) (choice_number e.0 e.1) ∙ same e.0.member ∙ sym (ap (λ o. option_map_or (nat_eq member) o false) (choice_entry e.0 e.1)))
    where
      same : (k : ℕ) → same_number (pos k) (pos member) ≡ nat_eq member k
      same k = grind (arith, ints)
  agree (Guard.Value path number) known a b = by (value_at scene path) refl known
    where
      numeric : (range : ValueRange) (held : Held) (low : ℤ) → is_numeric range ≡ true → in_range scene.texts range held ≡ true → same_number (unwrap_or (number_of scene.texts held) low) number ≡ is_number number held
      numeric (ValueRange.Between l h) (Held.Number n) low g r = refl
      numeric (ValueRange.Among numbers) (Held.Number n) low g r = refl
      numeric (ValueRange.Between l h) (Held.Chars text) low g r = absurd (true≢false (sym r))
      numeric (ValueRange.Among numbers) (Held.Chars text) low g r = absurd (true≢false (sym r))
      numeric ValueRange.Chars held low g r = absurd (true≢false (sym g))

      by : (o : Option ValueSpot) → value_at scene path ≡ o → option_map_or (λ (v : ValueSpot). is_numeric v.range) o false ≡ true
          → same_number (named (SlotName.Value path)) number ≡ option_map_or (is_number number) (held_in run path) false
      by None e h = absurd (true≢false (sym h))
      by (Some v) e h =
          let found = found_in (λ (w : ValueSpot). same_path w.path path) (values scene) v e in
          let is = path_is v.path path found.1 in
          let w = entry_there ValueSpot Value (λ u. u.path) (λ u. u.path) there (values scene) run.values (values_listed scene run framed) v found.0 (subst (λ p. there p ≡ true) (sym is) b) in
          let at : w.0.path ≡ path = sym w.2 ∙ is in
          subst (λ p. same_number (named (SlotName.Value p)) number ≡ option_map_or (is_number number) (held_in run p) false) at
          (ap (λ z. same_number z number) (value_number w.0 w.1)
          ∙ numeric v.range w.0.held (ends_of scene (SlotName.Value w.0.path)).low h (value_range w.0 w.1 v found.0 (sym w.2))
          ∙ sym (ap (λ o. option_map_or (is_number number) o false) (value_entry w.0 w.1)))

  pub stands_there : (path : Path) → stands scene named path ≡ there path
  stands_there path = presence_law scene (is_held named) (is_met run) agree (guards scene path) (guards_grounded scene expanded.is_scene.spots_grounded path)

  -- ---- the lists

  list_back : (A B : Type 0) (key : A → Path) (key_of : B → Path) (mk : Path → B) (make : A → B) (xs : List A) (ys : List B) → filter there (map key xs) ≡ map key_of ys
      → ((a : A) → In a xs → make a ≡ mk (key a)) → ((y : B) → In y ys → mk (key_of y) ≡ y) → map make (filter (λ a. stands scene named (key a)) xs) ≡ ys
  list_back A B key key_of mk make xs ys same f g =
      map_same make (λ a. mk (key a)) (filter (λ a. stands scene named (key a)) xs) (λ a i. f a (in_filter (λ a. stands scene named (key a)) xs a i).0)
      ∙ twice key mk (filter (λ a. stands scene named (key a)) xs)
      ∙ ap (map mk) (keys_kept key (stands scene named) xs ∙ filter_same (stands scene named) there (map key xs) (λ p i. stands_there p))
      ∙ rebuilt A B key key_of there xs ys same mk g

  choices_back : map (λ (c : ChoiceSpot). choice_of named c.path) (filter (λ (c : ChoiceSpot). stands scene named c.path) (choices scene)) ≡ run.choices
  choices_back = list_back ChoiceSpot Choice (λ c. c.path) (λ c. c.path) (choice_of named) (λ c. choice_of named c.path) (choices scene) run.choices (choices_listed scene run framed) (λ a i. refl)
      (λ c i. ap (λ z. record { path = c.path; member = unsigned_abs z }) (choice_number c i))

  phases_back : map (λ (p : PhaseSpot). span_of named p.path) (filter (λ (p : PhaseSpot). stands scene named p.path) (phases scene)) ≡ run.phases
  phases_back = list_back PhaseSpot Span (λ p. p.path) (λ s. s.path) (span_of named) (λ p. span_of named p.path) (phases scene) run.phases (phases_listed scene run framed) (λ a i. refl)
      (λ s i. ap₂ (λ a b. record { path = s.path; start = unsigned_abs a; end = unsigned_abs b }) (span_start s i) (span_end s i))

  abbrev range_at : Path → ValueRange
  range_at path = option_map_or (λ (v : ValueSpot). v.range) (value_at scene path) ValueRange.Chars

  abbrev value_of_path : Path → Value
  value_of_path path = record { path = path; held = held_of scene.texts (range_at path) (named (SlotName.Value path)) }

  held_back : (range : ValueRange) (held : Held) (low : ℤ) → in_range scene.texts range held ≡ true → held_of scene.texts range (unwrap_or (number_of scene.texts held) low) ≡ held
  held_back (ValueRange.Between l h) (Held.Number n) low r = refl
  held_back (ValueRange.Among numbers) (Held.Number n) low r = refl
  held_back ValueRange.Chars (Held.Chars text) low r = by (text_number scene.texts text) refl
    where
      by : (o : Option ℕ) → text_number scene.texts text ≡ o → Held.Chars (unwrap_or (slice_get scene.texts (unsigned_abs (unwrap_or (option_map pos o) low))) []) ≡ Held.Chars text
      by None e =
          let found = any_at (bytes_eq text) scene.texts r in
          let first = finds (bytes_eq text) scene.texts found.0 found.1 found.2 in
          let here : slice_get scene.texts (length scene.texts) ≡ Some first.0 = ap (λ o. slice_get scene.texts (unwrap_or o (length scene.texts))) (sym e) ∙ at_position (bytes_eq text) scene.texts ∙ first.1 in
          let bad = some_less scene.texts (length scene.texts) first.0 here in absurd (omega arith)
      by (Some n) e = let p = placed scene.texts text n e in ap (λ o. Held.Chars (unwrap_or o [])) p.stands ∙ ap Held.Chars (sym ((bytes_eq-Decides text p.found).0 p.same))
  held_back (ValueRange.Between l h) (Held.Chars text) low r = absurd (true≢false (sym r))
  held_back (ValueRange.Among numbers) (Held.Chars text) low r = absurd (true≢false (sym r))
  held_back ValueRange.Chars (Held.Number n) low r = absurd (true≢false (sym r))

  values_back : map (value_named scene named) (filter (λ (v : ValueSpot). stands scene named v.path) (values scene)) ≡ run.values
  values_back = list_back ValueSpot Value (λ v. v.path) (λ v. v.path) value_of_path (value_named scene named) (values scene) run.values (values_listed scene run framed)
      (λ v i. ap (λ o. record { path = v.path; held = held_of scene.texts (option_map_or (λ (w : ValueSpot). w.range) o ValueRange.Chars) (named (SlotName.Value v.path)) }) (sym (value_known v i)))
      (λ v i. let s = spot_there ValueSpot Value (λ w. w.path) (λ w. w.path) there (values scene) run.values (values_listed scene run framed) v i in
      let known : value_at scene v.path ≡ Some s.0 = ap (value_at scene) s.2 ∙ value_known s.0 s.1 in
      ap₂ (λ r z. record { path = v.path; held = held_of scene.texts r z }) (ap (λ o. option_map_or (λ (w : ValueSpot). w.range) o ValueRange.Chars) known) (value_number v i)
      ∙ ap (λ h. record { path = v.path; held = h }) (held_back s.0.range v.held (ends_of scene (SlotName.Value v.path)).low (value_range v i s.0 s.1 s.2)))

  -- ---- the end

  abbrev ending : Bool
  ending = option_map_or (λ (s : Span). nat_eq run.end s.end) (span_in run root_do) false

  end_parts : (run.tick ≡ scene.setting.tick) × (run.end ≤ scene.setting.ticks) × (ends_with_root_do scene run ≡ true)
  end_parts =
      let rest = right_of (nat_eq run.tick scene.setting.tick) (nat_le run.end scene.setting.ticks && ends_with_root_do scene run) framed.ended in
      let small = left_of (nat_le run.end scene.setting.ticks) (ends_with_root_do scene run) rest in (
        number_is run.tick scene.setting.tick (left_of (nat_eq run.tick scene.setting.tick) (nat_le run.end scene.setting.ticks && ends_with_root_do scene run) framed.ended),
        nat_le_is run.end scene.setting.ticks small,
        right_of (nat_le run.end scene.setting.ticks) (ends_with_root_do scene run) rest,
      )
    where
      nat_le_is : (a b : ℕ) → nat_le a b ≡ true → a ≤ b
      nat_le_is a b h = grind arith

  end_back : end_named scene named ≡ run.end
  end_back = two_ways (has_root_do scene)
      (λ e. cond-true (has_root_do scene) (unsigned_abs (named (SlotName.End root_do))) 0 e
      ∙ by (span_in run root_do) refl (sym (cond-true (has_root_do scene) ending (nat_eq run.end 0) e) ∙ end_parts.2))
      (λ e. cond-false (has_root_do scene) (unsigned_abs (named (SlotName.End root_do))) 0 e
      ∙ sym (number_is run.end 0 (sym (cond-false (has_root_do scene) ending (nat_eq run.end 0) e) ∙ end_parts.2)))
    where
      by : (o : Option Span) → span_in run root_do ≡ o → option_map_or (λ (s : Span). nat_eq run.end s.end) o false ≡ true → unsigned_abs (named (SlotName.End root_do)) ≡ run.end
      by None f g = absurd (true≢false (sym g))
      by (Some s) f g =
          let found = found_in (λ (t : Span). same_path t.path root_do) run.phases s f in
          ap (λ p. unsigned_abs (named (SlotName.End p))) (sym (path_is s.path root_do found.1)) ∙ ap unsigned_abs (span_end s found.0) ∙ sym (number_is run.end s.end g)

  -- ---- traces

  trace_back : (t : Trace) → In t run.traces → trace_named scene named t.path ≡ t
  trace_back t i =
      let s = spot_there Path Trace (λ v. v) (λ u. u.path) there (vehicles scene) run.traces (traces_listed scene run framed) t i in
      let known : In t.path (vehicles scene) = subst (λ p. In p (vehicles scene)) (sym s.2) s.1 in
      let first = first_entry Path Trace (λ v. v) (λ u. u.path) there (vehicles scene) run.traces (traces_listed scene run framed) (subst (λ ps. are_distinct ps ≡ true) (sym (map_self (vehicles scene))) expanded.is_scene.vehicles_distinct) t i in
      ap (λ n. record { path = t.path; samples = map (sample_named named t.path) (range_with_len 0 (n + 1)) }) end_back
      ∙ ap (λ xs. record { path = t.path; samples = xs })
      (samples_are (sample_named named t.path) 0 (run.end + 1) t.samples (trace_long scene run framed t i)
      (λ k x e. let less = some_less t.samples k x e in
      let long = trace_long scene run framed t i in
      let few : run.end ≤ scene.setting.ticks = end_parts.1 in
      let here : 0 + k ≡ k = omega arith in
      ap (sample_named named t.path) here ∙ sample_back k x known (ap (λ o. option_and_then (λ samples. slice_get samples k) (option_map (λ (u : Trace). u.samples) o)) first ∙ e) (omega arith)))
    where
      map_self : (xs : List Path) → map (λ v. v) xs ≡ xs
      map_self [] = refl
      map_self (x ∷ xs) = ap (λ ys. x ∷ ys) (map_self xs)

      sample_back : (k : ℕ) (x : Sample) → In t.path (vehicles scene) → sample_in run t.path k ≡ Some x → k ≤ scene.setting.ticks → sample_named named t.path k ≡ x
      sample_back k x known e small =
          ap₂ (λ a b. record { lane = a; position = b; speed = named (SlotName.Speed t.path k) })
          (named_filled scene expanded run framed (SlotName.Lane t.path k) (sample_is_named scene t.path k (SlotName.Lane t.path k) known small (inl refl))
          ∙ ap (λ o. unwrap_or (option_map (λ (s : Sample). s.lane) o) (pos 1)) e)
          (named_filled scene expanded run framed (SlotName.Position t.path k) (sample_is_named scene t.path k (SlotName.Position t.path k) known small (inr (inl refl)))
          ∙ ap (λ o. unwrap_or (option_map (λ (s : Sample). s.position) o) (pos 0)) e)
          ∙ ap (λ z. record { lane = x.lane; position = x.position; speed = z })
          (named_filled scene expanded run framed (SlotName.Speed t.path k) (sample_is_named scene t.path k (SlotName.Speed t.path k) known small (inr (inr (inl refl))))
          ∙ ap (λ o. unwrap_or (option_map (λ (s : Sample). s.speed) o) (pos 0)) e)

  traces_back : map (trace_named scene named) (filter (λ v. stands scene named v) (vehicles scene)) ≡ run.traces
  traces_back = list_back Path Trace (λ v. v) (λ t. t.path) (trace_named scene named) (trace_named scene named) (vehicles scene) run.traces (traces_listed scene run framed) (λ a i. refl) trace_back

  -- ---- the whole run

  abbrev made : List Choice → ℕ → List Span → ℕ → List Trace → List Value → Run
  made c e p k t v = record { choices = c; end = e; phases = p; tick = k; traces = t; values = v }

  pub run_back : run_of scene (point_of scene run) ≡ run
  run_back =
      let now = run_named scene named in
      ap (λ c. made c now.end now.phases now.tick now.traces now.values) choices_back
      ∙ ap (λ e. made run.choices e now.phases now.tick now.traces now.values) end_back
      ∙ ap (λ p. made run.choices run.end p now.tick now.traces now.values) phases_back
      ∙ ap (λ k. made run.choices run.end run.phases k now.traces now.values) (sym end_parts.0)
      ∙ ap (λ t. made run.choices run.end run.phases run.tick t now.values) traces_back
      ∙ ap (λ v. made run.choices run.end run.phases run.tick run.traces v) values_back

  -- ---- enums

  pub typed_back : (path : Path) (numbers : List ℤ) (v : ValueSpot) → In v (values scene) → v.path ≡ path → v.range ≡ ValueRange.Among numbers → typed_holds scene run path numbers ≡ true
  typed_back path numbers v i is range = two_ways (there path)
      (λ e. let w = entry_there ValueSpot Value (λ u. u.path) (λ u. u.path) there (values scene) run.values (values_listed scene run framed) v i (subst (λ p. there p ≡ true) (sym is) e) in
      let holds = subst (λ r. in_range scene.texts r w.0.held ≡ true) range (value_range w.0 w.1 v i (sym w.2)) in
      let at : w.0.path ≡ path = sym w.2 ∙ is in
      ap (λ b. not b || option_map_or (λ h. list_any (λ n. is_number n h) numbers) (held_in run path) false) e
      ∙ ap (λ o. option_map_or (λ h. list_any (λ n. is_number n h) numbers) o false) (ap (held_in run) (sym at) ∙ value_entry w.0 w.1)
      ∙ by w.0.held holds)
      (λ e. ap (λ b. not b || option_map_or (λ h. list_any (λ n. is_number n h) numbers) (held_in run path) false) e)
    where
      by : (held : Held) → in_range scene.texts (ValueRange.Among numbers) held ≡ true → list_any (λ n. is_number n held) numbers ≡ true
      by (Held.Number n) h = h
      by (Held.Chars text) h = absurd (true≢false (sym h))
