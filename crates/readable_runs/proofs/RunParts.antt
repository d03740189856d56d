-- The run of a point of a scene has small numbers. Its paths are those of the scene, and so are its texts.
use Rattle.std.proofs.Common.{◌≡◌, refl, sym, ap, subst, inl, inr, ◌⊎◌, ℕ, zero, suc, ℤ, pos, negsuc, ◌+◌, ◌-◌, ◌^◌, ◌<◌, ◌≤◌, ◌≤ℤ◌, Bool, true, false, cond, ◌&&◌, List, [], ◌∷◌, map, length, Option, Some, None, slice_get, unwrap_or, arith}
use Rattle.std.specs.Prelude.{filter, find, nat_le, unsigned_abs, ⊤}
use Rattle.std.specs.List.{list_all, list_any, range_with_len}
use Rattle.std.specs.Str.{is_utf8}
use Rattle.std.specs.Option.{option_map_or}
use Rattle.std.proofs.lemmas.Bool.{false≢true, le-leb, lt-ltb}
use Rattle.std.proofs.lemmas.Str.{IsUtf8-nil, is_utf8-from_IsUtf8}
use Rattle.std.proofs.lemmas.Int.{ints}
use Rattle.osc_base.specs.PathTexts.{is_written}
use Rattle.osc_base.specs.Paths.{same_path}
use Rattle.osc_base.specs.SlotNames.{same_slot}
use Rattle.osc_base.specs.declared.path.Path.{Path}
use Rattle.osc_base.specs.declared.listing.SlotName.{SlotName}
use Rattle.search_answers.specs.box_eval.Box.{IsPointOf, pair}
use Rattle.search_answers.specs.record_text.Lines.{IsFewDigits}
use Rattle.run_tests.specs.expr_nodes.Sizes.{field_reach}
use Rattle.run_tests.specs.composition.declared.spot.ChoiceSpot.{ChoiceSpot}
use Rattle.run_tests.specs.composition.declared.spot.PhaseSpot.{PhaseSpot}
use Rattle.run_tests.specs.composition.declared.spot.ValueSpot.{ValueSpot}
use Rattle.run_tests.specs.composition.declared.spot.ValueRange.{ValueRange}
use Rattle.run_tests.specs.composition.declared.run.Run.{Run}
use Rattle.run_tests.specs.composition.declared.run.Trace.{Trace}
use Rattle.run_tests.specs.composition.declared.run.Value.{Value}
use Rattle.run_tests.specs.composition.Scenes.{Scene, Spot, Content, Object, Value as ValueContent, Phase, choice_spot, phase_spot, value_spot, vehicle_spot, choices, phases, values, vehicles, is_one_of, has_root_do, root_do}
use Rattle.run_tests.specs.composition.Slots.{slot_names}
use Rattle.run_tests.specs.composition.Invariants.{is_from_to}
use Rattle.source_scenes.specs.field_flatten.Ends.{bounds, ends_of, no_ends}
use Rattle.source_scenes.specs.field_flatten.Exactness.{IsExpanded, IsLimited}
use Rattle.source_scenes.specs.field_flatten.Points.{slot_value, stands, choice_of, span_of, held_of, sample_named, end_named, run_of}
use Rattle.source_scenes.proofs.of_field_flatten.Tests.{In, any_at, found_in, in_filter, left_of, right_of, two_ways}
use Rattle.source_scenes.proofs.of_field_flatten.NumberLaw.{made_from}
use Rattle.source_scenes.proofs.of_field_flatten.SlotLaw.{Between, Inside, point_inside, slot_is}
use Rattle.source_scenes.proofs.of_field_flatten.of_composition.Settings.{setting_is}
use Rattle.run_tests.specs.WrittenRuns.{is_u32, is_i64, is_written_choice, is_written_span, is_written_sample, is_written_trace, is_written_held}
use Rattle.search_answers.proofs.ShortEnds.{few_members, short_name}
use Rattle.readable_runs.proofs.Utf8Runs.{HasUtf8Parts, is_utf8_held, is_utf8_value}

-- ---- what is known of a scene's paths and texts

-- the path of a vehicle, of a value and of a phase has a text
abbrev pub IsReadable : Path → Content → Type 0
IsReadable path (Object true) = is_written path.steps ≡ true
IsReadable path (Object false) = ⊤
IsReadable path (ValueContent range) = is_written path.steps ≡ true
IsReadable path (Phase kind members) = is_written path.steps ≡ true

pub record HasTexts (scene : Scene) : Type 0 where
  pub paths : (s : Spot) → In s scene.spots → IsReadable s.path s.content
  pub texts : list_all is_utf8 scene.texts ≡ true

-- ---- spots

choice_path : (path : Path) (content : Content) (c : ChoiceSpot) → choice_spot path content ≡ Some c → IsReadable path content → is_written c.path.steps ≡ true
choice_path path (Object v) c e h = cc
choice_path path (ValueContent r) c e h = cc
choice_path path (Phase kind members) c e h = by (is_one_of kind) e
  where
    by : (b : Bool) → cond b (Some (record { path = path; members = length members })) None ≡ Some c → is_written c.path.steps ≡ true
    by true f = let same : record { path = path; members = length members } ≡ c = cc in subst (λ (d : ChoiceSpot). is_written d.path.steps ≡ true) same h
    by false f = cc

phase_path : (path : Path) (content : Content) (p : PhaseSpot) → phase_spot path content ≡ Some p → IsReadable path content → is_written p.path.steps ≡ true
phase_path path (Object v) p e h = cc
phase_path path (ValueContent r) p e h = cc
phase_path path (Phase kind members) p e h = let same : record { path = path; kind = kind; members = members } ≡ p = cc in subst (λ (d : PhaseSpot). is_written d.path.steps ≡ true) same h

value_path : (path : Path) (content : Content) (v : ValueSpot) → value_spot path content ≡ Some v → IsReadable path content → is_written v.path.steps ≡ true
value_path path (Object v) w e h = cc
value_path path (ValueContent r) w e h = let same : record { path = path; range = r } ≡ w = cc in subst (λ (d : ValueSpot). is_written d.path.steps ≡ true) same h
value_path path (Phase kind members) w e h = cc

vehicle_path : (path : Path) (content : Content) (v : Path) → vehicle_spot path content ≡ Some v → IsReadable path content → is_written v.steps ≡ true
vehicle_path path (Object true) v e h = let same : path ≡ v = cc in subst (λ (q : Path). is_written q.steps ≡ true) same h
vehicle_path path (Object false) v e h = cc
vehicle_path path (ValueContent r) v e h = cc
vehicle_path path (Phase kind members) v e h = cc

-- ---- numbers

both : (a b : Bool) → a ≡ true → b ≡ true → a && b ≡ true
both true b p q = q
both false b p q = p

word_number : (n : ℕ) → n < 2 ^ 32 → is_u32 n ≡ true
word_number n h = lt-ltb n (2 ^ 32) h

integer : (z : ℤ) → unsigned_abs z < 1000000000000000000 → is_i64 z ≡ true
integer (pos n) h = lt-ltb n (2 ^ 63) (omega (arith, ints, h))
integer (negsuc n) h = lt-ltb n (2 ^ 63) (omega (arith, ints, h))

mapped : {A B : Type 0} (P : B → Bool) (f : A → B) (xs : List A) → ((x : A) → In x xs → P (f x) ≡ true) → list_all P (map f xs) ≡ true
mapped P f [] h = refl
mapped P f (x ∷ xs) h = both (P (f x)) _ (h x (inl refl)) (mapped P f xs (λ y i. h y (inr i)))

text_utf8 : (texts : List (List ℕ)) (k : ℕ) → list_all is_utf8 texts ≡ true → is_utf8 (unwrap_or (slice_get texts k) []) ≡ true
text_utf8 [] k h = is_utf8-from_IsUtf8 [] IsUtf8-nil
text_utf8 (t ∷ ts) zero h = left_of (is_utf8 t) (list_all is_utf8 ts) h
text_utf8 (t ∷ ts) (suc k) h = text_utf8 ts k (right_of (is_utf8 t) (list_all is_utf8 ts) h)

module _ (scene : Scene) (expanded : IsExpanded scene) (limited : IsLimited scene) (has : HasTexts scene) (at : SlotName → ℤ) (inside : Inside scene at) where
  between : (name : SlotName) → Between (ends_of scene name) (at name) ⊎ (at name ≡ pos 0)
  between name = two_ways (list_any (same_slot name) (slot_names scene))
      (λ e. inl (let found = any_at (same_slot name) (slot_names scene) e in inside.named name (subst (λ s. In s (slot_names scene)) (sym (slot_is name found.0 found.2)) found.1)))
      (λ e. inr (inside.unnamed name e))

  short_between : (low n high : ℤ) → IsFewDigits (unsigned_abs low) → IsFewDigits (unsigned_abs high) → low ≤ℤ n → n ≤ℤ high → unsigned_abs n < 1000000000000000000
  short_between low n high p q r s = omega (arith, ints, p, q, r, s)

  short : (name : SlotName) → is_i64 (at name) ≡ true
  short name = elim (between name) as (λ _. is_i64 (at name) ≡ true) [
    | inl b ↦
        let ends = short_name scene expanded limited name in
        integer (at name) (short_between (ends_of scene name).low (at name) (ends_of scene name).high ends.0 ends.1 b.low b.high)
    | inr z ↦ subst (λ n. is_i64 n ≡ true) (sym z) refl
  ]

  tick_word : (name : SlotName) → (ends_of scene name).low ≡ pos 0 → (ends_of scene name).high ≡ pos scene.setting.ticks → is_u32 (unsigned_abs (at name)) ≡ true
  tick_word name low high =
      let few : scene.setting.ticks ≤ 600 = (setting_is scene.setting expanded.is_scene.setting).few_ticks in
      elim (between name) as (λ _. is_u32 (unsigned_abs (at name)) ≡ true) [
        | inl b ↦ word_number (unsigned_abs (at name)) (below (at name) scene.setting.ticks (subst (λ z. z ≤ℤ at name) low b.low) (subst (λ z. at name ≤ℤ z) high b.high) few)
        | inr z ↦ subst (λ n. is_u32 (unsigned_abs n) ≡ true) (sym z) refl
      ]
    where
      below : (n : ℤ) (ticks : ℕ) → pos 0 ≤ℤ n → n ≤ℤ pos ticks → ticks ≤ 600 → unsigned_abs n < 2 ^ 32
      below n ticks p q few = omega (arith, ints, p, q, few)

  choice_word : (path : Path) → is_u32 (unsigned_abs (at (SlotName.Choice path))) ≡ true
  choice_word path = by (find (λ (c : ChoiceSpot). same_path c.path path) (choices scene)) refl
    where
      least : (n : ℤ) → pos 0 ≤ℤ n → n ≤ℤ pos 0 → unsigned_abs n < 2 ^ 32
      least n p q = omega (arith, ints, p, q)

      below : (n : ℤ) (members : ℕ) → pos 0 ≤ℤ n → n ≤ℤ pos (members - 1) → members ≤ field_reach → unsigned_abs n < 2 ^ 32
      below n members p q few = omega (arith, ints, p, q, few)

      by : (o : Option ChoiceSpot) → find (λ (c : ChoiceSpot). same_path c.path path) (choices scene) ≡ o → is_u32 (unsigned_abs (at (SlotName.Choice path))) ≡ true
      by o e = elim (between (SlotName.Choice path)) as (λ _. is_u32 (unsigned_abs (at (SlotName.Choice path))) ≡ true) [
        | inl b ↦ word_number (unsigned_abs (at (SlotName.Choice path))) (within o e
            (subst (λ z. Between (option_map_or (λ (c : ChoiceSpot). pair (pos 0) (pos (c.members - 1))) z no_ends) (at (SlotName.Choice path))) e b))
        | inr z ↦ subst (λ n. is_u32 (unsigned_abs n) ≡ true) (sym z) refl
      ]
        where
          within : (o : Option ChoiceSpot) → find (λ (c : ChoiceSpot). same_path c.path path) (choices scene) ≡ o
              → Between (option_map_or (λ (c : ChoiceSpot). pair (pos 0) (pos (c.members - 1))) o no_ends) (at (SlotName.Choice path)) → unsigned_abs (at (SlotName.Choice path)) < 2 ^ 32
          within None f b = least (at (SlotName.Choice path)) b.low b.high
          within (Some c) f b =
              below (at (SlotName.Choice path)) c.members b.low b.high
              (few_members scene expanded limited c (found_in (λ (d : ChoiceSpot). same_path d.path path) (choices scene) c f).0)

  -- ---- parts

  choices_are : list_all is_written_choice (map (λ (c : ChoiceSpot). choice_of at c.path) (filter (λ (c : ChoiceSpot). stands scene at c.path) (choices scene))) ≡ true
  choices_are = mapped is_written_choice (λ (c : ChoiceSpot). choice_of at c.path) _ (λ c i.
      let there = (in_filter (λ (c : ChoiceSpot). stands scene at c.path) (choices scene) c i).0 in
      let s = made_from (λ (s : Spot). choice_spot s.path s.content) scene.spots c there in
      both (is_written c.path.steps) _ (choice_path s.0.path s.0.content c s.2 (has.paths s.0 s.1)) (choice_word c.path))

  phases_are : list_all is_written_span (map (λ (p : PhaseSpot). span_of at p.path) (filter (λ (p : PhaseSpot). stands scene at p.path) (phases scene))) ≡ true
  phases_are = mapped is_written_span (λ (p : PhaseSpot). span_of at p.path) _ (λ p i.
      let there = (in_filter (λ (p : PhaseSpot). stands scene at p.path) (phases scene) p i).0 in
      let s = made_from (λ (s : Spot). phase_spot s.path s.content) scene.spots p there in
      both (is_written p.path.steps) _ (phase_path s.0.path s.0.content p s.2 (has.paths s.0 s.1))
      (both (is_u32 (unsigned_abs (at (SlotName.Start p.path)))) _ (tick_word (SlotName.Start p.path) refl refl) (tick_word (SlotName.End p.path) refl refl)))

  sample_is : (v : Path) (tick : ℕ) → is_written_sample (sample_named at v tick) ≡ true
  sample_is v tick =
      both (is_i64 (at (SlotName.Lane v tick))) _ (short (SlotName.Lane v tick))
      (both (is_i64 (at (SlotName.Position v tick))) _ (short (SlotName.Position v tick)) (short (SlotName.Speed v tick)))

  abbrev trace_at : Path → Trace
  trace_at v = record { path = v; samples = map (sample_named at v) (range_with_len 0 (end_named scene at + 1)) }

  traces_are : list_all is_written_trace (map trace_at (filter (stands scene at) (vehicles scene))) ≡ true
  traces_are = mapped is_written_trace trace_at (filter (stands scene at) (vehicles scene)) (λ v i.
      let there = (in_filter (stands scene at) (vehicles scene) v i).0 in
      let s = made_from (λ (s : Spot). vehicle_spot s.path s.content) scene.spots v there in
      both (is_written v.steps) _ (vehicle_path s.0.path s.0.content v s.2 (has.paths s.0 s.1))
      (mapped is_written_sample (sample_named at v) (range_with_len 0 (end_named scene at + 1)) (λ tick j. sample_is v tick)))

  held_is : (range : ValueRange) (n : ℤ) → is_i64 n ≡ true → is_written_held (held_of scene.texts range n) && is_utf8_held (held_of scene.texts range n) ≡ true
  held_is (ValueRange.Between low high) n h = both (is_i64 n) true h refl
  held_is (ValueRange.Among numbers) n h = both (is_i64 n) true h refl
  held_is ValueRange.Chars n h = text_utf8 scene.texts (unsigned_abs n) has.texts

  abbrev value_at_spot : ValueSpot → Value
  value_at_spot v = record { path = v.path; held = held_of scene.texts v.range (at (SlotName.Value v.path)) }

  values_are : list_all is_utf8_value (map value_at_spot (filter (λ (v : ValueSpot). stands scene at v.path) (values scene))) ≡ true
  values_are = mapped is_utf8_value value_at_spot _ (λ v i.
      let there = (in_filter (λ (v : ValueSpot). stands scene at v.path) (values scene) v i).0 in
      let s = made_from (λ (s : Spot). value_spot s.path s.content) scene.spots v there in
      grouped (is_written v.path.steps) _ _ (value_path s.0.path s.0.content v s.2 (has.paths s.0 s.1)) (held_is v.range (at (SlotName.Value v.path)) (short (SlotName.Value v.path))))
    where
      grouped : (a b c : Bool) → a ≡ true → b && c ≡ true → (a && b) && c ≡ true
      grouped true b c p q = q
      grouped false b c p q = absurd (false≢true p)

  end_is : is_u32 (end_named scene at) ≡ true
  end_is = by (has_root_do scene)
    where
      by : (b : Bool) → is_u32 (cond b (unsigned_abs (at (SlotName.End root_do))) 0) ≡ true
      by true = tick_word (SlotName.End root_do) refl refl
      by false = refl

-- the length of a tick is the setting's
tick_is : (scene : Scene) → IsExpanded scene → is_from_to 10 1000 scene.setting.tick ≡ true
tick_is scene expanded =
    let range = setting_is scene.setting expanded.is_scene.setting in
    both (nat_le 10 scene.setting.tick) (nat_le scene.setting.tick 1000) (le-leb 10 scene.setting.tick range.some_tick) (le-leb scene.setting.tick 1000 range.short_tick)

pub run_parts : (scene : Scene) → IsExpanded scene → IsLimited scene → HasTexts scene → (point : List ℤ) → IsPointOf (bounds scene) point → (run : Run) → run ≡ run_of scene point → HasUtf8Parts run
run_parts scene expanded limited has point within run gives =
    let at = slot_value scene point in
    let inside = point_inside scene point within in
    record {
      choices = subst (λ (r : Run). list_all is_written_choice r.choices ≡ true) (sym gives) (choices_are scene expanded limited has at inside);
      end = subst (λ (r : Run). is_u32 r.end ≡ true) (sym gives) (end_is scene expanded limited has at inside);
      phases = subst (λ (r : Run). list_all is_written_span r.phases ≡ true) (sym gives) (phases_are scene expanded limited has at inside);
      tick = subst (λ (r : Run). is_from_to 10 1000 r.tick ≡ true) (sym gives) (tick_is scene expanded);
      traces = subst (λ (r : Run). list_all is_written_trace r.traces ≡ true) (sym gives) (traces_are scene expanded limited has at inside);
      values = subst (λ (r : Run). list_all is_utf8_value r.values ≡ true) (sym gives) (values_are scene expanded limited has at inside);
    }
