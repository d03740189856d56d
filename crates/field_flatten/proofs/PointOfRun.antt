-- The point of a run is in the box of the scene.
use Rattle.std.proofs.Common.{◌≡◌, ℕ, zero, suc, ◌-◌, ◌<◌, ◌≤◌, refl, sym, ap, ◌∙◌, subst, inl, inr, List, [], ◌∷◌, true, false, ◌&&◌, Option, Some, None, length, arith, true≢false}
use Rattle.std.proofs.lemmas.List.{length-map}
use Rattle.std.proofs.lemmas.Option.{slice_get-map}
use Rattle.std.specs.Prelude.{ℤ, pos, ◌≤ℤ◌, find, nat_le, nat_lt, int_le, option_map, option_and_then, slice_get, unwrap_or, bytes_eq}
use Rattle.std.specs.Option.{option_map_or}
use Rattle.std.specs.List.{position_or_len}
use Rattle.std.proofs.lemmas.Int.{ints, clamps}
use Rattle.osc_base.specs.declared.path.Path.{Path}
use Rattle.osc_base.specs.declared.sample.Sample.{Sample}
use Rattle.osc_base.specs.declared.listing.SlotName.{SlotName}
use Rattle.osc_base.specs.Comparisons.{same_number}
use Rattle.osc_base.specs.Paths.{same_path}
use Rattle.box_eval.specs.declared.bounds.Pair.{Pair}
use Rattle.box_eval.specs.Box.{pair, value_of, IsPointOf}
use Rattle.composition.specs.type_heads.Bounds.{least_of, greatest_of}
use Rattle.composition.specs.declared.spot.ChoiceSpot.{ChoiceSpot}
use Rattle.composition.specs.declared.spot.ValueSpot.{ValueSpot}
use Rattle.composition.specs.declared.spot.ValueRange.{ValueRange}
use Rattle.composition.specs.declared.run.Held.{Held}
use Rattle.composition.specs.declared.run.Choice.{Choice}
use Rattle.composition.specs.declared.run.Span.{Span}
use Rattle.composition.specs.declared.run.Value.{Value}
use Rattle.composition.specs.declared.run.Trace.{Trace}
use Rattle.composition.specs.declared.run.Run.{Run}
use Rattle.composition.specs.RunParts.{choice_in, held_in, span_in, sample_in}
use Rattle.composition.specs.Scenes.{Scene, choices, values}
use Rattle.composition.specs.Numbers.{text_number, number_of}
use Rattle.composition.specs.Ranges.{lies_between, in_range}
use Rattle.composition.specs.Claims.{road_end, top_speed, sample_in_range}
use Rattle.composition.specs.Slots.{slot_names}
use Rattle.composition.specs.Invariants.{is_range, is_small}
use Rattle.composition.proofs.Settings.{setting_is}
use Rattle.field_flatten.specs.Ends.{slot_in, ends_of, range_ends, no_ends, tick_ends, bounds}
use Rattle.field_flatten.specs.Points.{slot_value, entry_of, filled, point_of}
use Rattle.field_flatten.specs.Exactness.{IsExpanded}
use Rattle.field_flatten.proofs.Tests.{left_of, right_of, two_ways, path_is, In, all_at, any_at, found_in}
use Rattle.field_flatten.proofs.Presence.{same_number_is}
use Rattle.field_flatten.proofs.SlotLaw.{Between, named_at, at_position}
use Rattle.field_flatten.proofs.ListedRun.{Framed, choice_bounded, value_bounded, span_bounded, trace_bounded}

pub le_of : (a b : ℤ) → int_le a b ≡ true → a ≤ℤ b
le_of a b h = grind (arith, ints)

nat_le_of : (a b : ℕ) → nat_le a b ≡ true → a ≤ b
nat_le_of a b h = grind arith

lies_of : (low high z : ℤ) → lies_between low high z ≡ true → Between (pair low high) z
lies_of low high z h = record { low = le_of low z (left_of (int_le low z) (int_le z high) h); high = le_of z high (right_of (int_le low z) (int_le z high) h) }

-- ---- least and greatest

least_below : (numbers : List ℤ) (z : ℤ) → In z numbers → least_of numbers ≤ℤ z
least_below [] z i = absurd i
least_below (n ∷ []) z (inl e) = omega (arith, ints)
least_below (n ∷ []) z (inr i) = absurd i
least_below (n ∷ m ∷ ms) z (inl e) = omega (arith, ints, clamps)
least_below (n ∷ m ∷ ms) z (inr i) = let rest = least_below (m ∷ ms) z i in omega (arith, ints, clamps)

greatest_above : (numbers : List ℤ) (z : ℤ) → In z numbers → z ≤ℤ greatest_of numbers
greatest_above [] z i = absurd i
greatest_above (n ∷ []) z (inl e) = omega (arith, ints)
greatest_above (n ∷ []) z (inr i) = absurd i
greatest_above (n ∷ m ∷ ms) z (inl e) = omega (arith, ints, clamps)
greatest_above (n ∷ m ∷ ms) z (inr i) = let rest = greatest_above (m ∷ ms) z i in omega (arith, ints, clamps)

least_greatest : (numbers : List ℤ) → least_of numbers ≤ℤ greatest_of numbers
least_greatest [] = omega (arith, ints)
least_greatest (n ∷ []) = omega (arith, ints)
least_greatest (n ∷ m ∷ ms) = let rest = least_greatest (m ∷ ms) in omega (arith, ints, clamps)

slice_in : {A : Type 0} (xs : List A) (i : ℕ) (x : A) → slice_get xs i ≡ Some x → In x xs
slice_in [] i x h = cc
slice_in (y ∷ ys) zero x h = let e : x ≡ y = cc in inl e
slice_in (y ∷ ys) (suc i) x h = inr (slice_in ys i x h)

pub some_less : {A : Type 0} (xs : List A) (i : ℕ) (x : A) → slice_get xs i ≡ Some x → i < length xs
some_less [] i x h = cc
some_less (y ∷ ys) zero x h = omega arith
some_less (y ∷ ys) (suc i) x h = let rest = some_less ys i x h in omega arith

-- the place of a text is below the number of texts, and the text stands there
pub record Placed (texts : List (List ℕ)) (text : List ℕ) (n : ℕ) : Type 0 where
  pub found : List ℕ
  pub stands : slice_get texts n ≡ Some found
  pub same : bytes_eq text found ≡ true
  pub small : n < length texts

pub placed : (texts : List (List ℕ)) (text : List ℕ) (n : ℕ) → text_number texts text ≡ Some n → Placed texts text n
placed texts text n h = two_ways (nat_lt (position_or_len (bytes_eq text) texts) (length texts))
    (λ e. let is : Some (position_or_len (bytes_eq text) texts) ≡ Some n = rw e at h in
    let place : position_or_len (bytes_eq text) texts ≡ n = cc in
    let small : n < length texts = grind arith in
    let here : slice_get texts n ≡ find (bytes_eq text) texts = ap (λ o. slice_get texts (unwrap_or o (length texts))) (sym h) ∙ at_position (bytes_eq text) texts in
    by (find (bytes_eq text) texts) refl here small)
    (λ e. let is : None ≡ Some n = rw e at h in cc)
  where
    by : (o : Option (List ℕ)) → find (bytes_eq text) texts ≡ o → slice_get texts n ≡ o → n < length texts → Placed texts text n
    by None e f small = absurd (past texts n f small)
      where
        past : (xs : List (List ℕ)) (k : ℕ) → slice_get xs k ≡ None → k < length xs → ⊥
        past [] k p q = omega arith
        past (x ∷ xs) zero p q = cc
        past (x ∷ xs) (suc k) p q = past xs k p (omega arith)
    by (Some t) e f small = record { found = t; stands = f; same = (found_in (bytes_eq text) texts t e).1; small = small }

-- ---- ends

module _ (scene : Scene) (expanded : IsExpanded scene) where
  lanes_above : pos 1 ≤ℤ pos scene.setting.lanes
  lanes_above =
      let some = (setting_is scene.setting expanded.is_scene.setting).some_lanes in
      omega (arith, ints)

  range_ordered : (range : ValueRange) → is_range range ≡ true → (range_ends scene.texts range).low ≤ℤ (range_ends scene.texts range).high
  range_ordered (ValueRange.Between low high) h = le_of low high (left_of (int_le low high) (is_small low && is_small high) h)
  range_ordered (ValueRange.Among numbers) h = least_greatest numbers
  range_ordered ValueRange.Chars h = omega (arith, ints)

  pub ends_ordered : (name : SlotName) → (ends_of scene name).low ≤ℤ (ends_of scene name).high
  ends_ordered (SlotName.Choice path) = by (find (λ (c : ChoiceSpot). same_path c.path path) (choices scene))
    where
      by : (o : Option ChoiceSpot) → (option_map_or {U = Pair} (λ c. pair (pos 0) (pos (c.members - 1))) o no_ends).low ≤ℤ (option_map_or {U = Pair} (λ c. pair (pos 0) (pos (c.members - 1))) o no_ends).high
      by None = omega (arith, ints)
      by (Some c) = omega (arith, ints)
  ends_ordered (SlotName.Start path) = omega (arith, ints)
  ends_ordered (SlotName.End path) = omega (arith, ints)
  ends_ordered (SlotName.Value path) = by (find (λ (v : ValueSpot). same_path v.path path) (values scene)) refl
    where
      by : (o : Option ValueSpot) → find (λ (v : ValueSpot). same_path v.path path) (values scene) ≡ o
          → (option_map_or {U = Pair} (λ v. range_ends scene.texts v.range) o no_ends).low ≤ℤ (option_map_or {U = Pair} (λ v. range_ends scene.texts v.range) o no_ends).high
      by None e = omega (arith, ints)
      by (Some v) e = range_ordered v.range (all_at (λ (w : ValueSpot). is_range w.range) (values scene) expanded.is_scene.ranges v (found_in (λ (w : ValueSpot). same_path w.path path) (values scene) v e).0)
  ends_ordered (SlotName.Lane path tick) = lanes_above
  ends_ordered (SlotName.Position path tick) = omega (arith, ints)
  ends_ordered (SlotName.Speed path tick) = omega (arith, ints)

  module _ (run : Run) (framed : Framed scene run) where
    choice_between : (path : Path) (m : ℕ) → choice_in run path ≡ Some m → Between (ends_of scene (SlotName.Choice path)) (pos m)
    choice_between path m h = by (find (λ (c : Choice). same_path c.path path) run.choices) refl h
      where
        of_spot : (o : Option ChoiceSpot) → option_map_or (λ (spot : ChoiceSpot). nat_lt m spot.members) o false ≡ true → Between (option_map_or {U = Pair} (λ (c : ChoiceSpot). pair (pos 0) (pos (c.members - 1))) o no_ends) (pos m)
        of_spot None g = absurd (true≢false (sym g))
        of_spot (Some spot) g = record { low = omega (arith, ints); high = small m spot.members g }
          where
            small : (a b : ℕ) → nat_lt a b ≡ true → pos a ≤ℤ pos (b - 1)
            small a b e = let less : a < b = grind arith in omega (arith, ints)

        by : (o : Option Choice) → find (λ (c : Choice). same_path c.path path) run.choices ≡ o → option_map (λ (c : Choice). c.member) o ≡ Some m → Between (ends_of scene (SlotName.Choice path)) (pos m)
        by None e g = cc
        by (Some c) e g =
            let found = found_in (λ (d : Choice). same_path d.path path) run.choices c e in
            let is : c.member ≡ m = cc in
            let bounded = choice_bounded scene run framed c found.0 in
            of_spot (find (λ (d : ChoiceSpot). same_path d.path path) (choices scene))
            (subst (λ p. option_map_or (λ (spot : ChoiceSpot). nat_lt m spot.members) (find (λ (d : ChoiceSpot). same_path d.path p) (choices scene)) false ≡ true) (path_is c.path path found.1)
            (subst (λ k. option_map_or (λ (spot : ChoiceSpot). nat_lt k spot.members) (find (λ (d : ChoiceSpot). same_path d.path c.path) (choices scene)) false ≡ true) is bounded))

    span_between : (path : Path) (s : Span) → span_in run path ≡ Some s → (s.start ≤ scene.setting.ticks) × (s.end ≤ scene.setting.ticks)
    span_between path s h =
        let bounded = span_bounded scene run framed s (found_in (λ (p : Span). same_path p.path path) run.phases s h).0 in
        let a = nat_le_of s.start s.end (left_of (nat_le s.start s.end) (nat_le s.end scene.setting.ticks) bounded) in
        let b = nat_le_of s.end scene.setting.ticks (right_of (nat_le s.start s.end) (nat_le s.end scene.setting.ticks) bounded) in
        (omega arith, b)

    range_between : (range : ValueRange) (held : Held) (z : ℤ) → in_range scene.texts range held ≡ true → number_of scene.texts held ≡ Some z → Between (range_ends scene.texts range) z
    range_between (ValueRange.Between low high) (Held.Number n) z h e = let is : n ≡ z = cc in subst (Between (pair low high)) is (lies_of low high n h)
    range_between (ValueRange.Among numbers) (Held.Number n) z h e =
        let is : n ≡ z = cc in
        let a = any_at (same_number n) numbers h in
        let i : In n numbers = subst (λ k. In k numbers) (sym (same_number_is n a.0 a.2)) a.1 in
        subst (Between (pair (least_of numbers) (greatest_of numbers))) is (record { low = least_below numbers n i; high = greatest_above numbers n i })
    range_between ValueRange.Chars (Held.Chars text) z h e = by (text_number scene.texts text) refl e
      where
        by : (o : Option ℕ) → text_number scene.texts text ≡ o → option_map pos o ≡ Some z → Between (pair (pos 0) (pos (length scene.texts - 1))) z
        by None f g = cc
        by (Some n) f g = let p = placed scene.texts text n f in let less : n < length scene.texts = p.small in let is : pos n ≡ z = cc in record { low = omega (arith, ints); high = omega (arith, ints) }
    range_between (ValueRange.Between low high) (Held.Chars text) z h e = absurd (true≢false (sym h))
    range_between (ValueRange.Among numbers) (Held.Chars text) z h e = absurd (true≢false (sym h))
    range_between ValueRange.Chars (Held.Number n) z h e = absurd (true≢false (sym h))

    value_between : (path : Path) (held : Held) (z : ℤ) → held_in run path ≡ Some held → number_of scene.texts held ≡ Some z → Between (ends_of scene (SlotName.Value path)) z
    value_between path held z h n = by (find (λ (v : Value). same_path v.path path) run.values) refl h
      where
        of_spot : (o : Option ValueSpot) → option_map_or (λ (spot : ValueSpot). in_range scene.texts spot.range held) o false ≡ true → Between (option_map_or {U = Pair} (λ (v : ValueSpot). range_ends scene.texts v.range) o no_ends) z
        of_spot None g = absurd (true≢false (sym g))
        of_spot (Some spot) g = range_between spot.range held z g n

        by : (o : Option Value) → find (λ (v : Value). same_path v.path path) run.values ≡ o → option_map (λ (v : Value). v.held) o ≡ Some held → Between (ends_of scene (SlotName.Value path)) z
        by None e g = cc
        by (Some v) e g =
            let found = found_in (λ (w : Value). same_path w.path path) run.values v e in
            let is : v.held ≡ held = cc in
            let bounded = value_bounded scene run framed v found.0 in
            of_spot (find (λ (w : ValueSpot). same_path w.path path) (values scene))
            (subst (λ p. option_map_or (λ (spot : ValueSpot). in_range scene.texts spot.range held) (find (λ (w : ValueSpot). same_path w.path p) (values scene)) false ≡ true) (path_is v.path path found.1)
            (subst (λ k. option_map_or (λ (spot : ValueSpot). in_range scene.texts spot.range k) (find (λ (w : ValueSpot). same_path w.path v.path) (values scene)) false ≡ true) is bounded))

    pub sample_bounded : (vehicle : Path) (tick : ℕ) (s : Sample) → sample_in run vehicle tick ≡ Some s → sample_in_range scene.setting s ≡ true
    sample_bounded vehicle tick s h = by (find (λ (t : Trace). same_path t.path vehicle) run.traces) refl h
      where
        by : (o : Option Trace) → find (λ (t : Trace). same_path t.path vehicle) run.traces ≡ o → option_and_then (λ samples. slice_get samples tick) (option_map (λ (t : Trace). t.samples) o) ≡ Some s → sample_in_range scene.setting s ≡ true
        by None e g = cc
        by (Some t) e g = all_at (sample_in_range scene.setting) t.samples (trace_bounded scene run framed t (found_in (λ (u : Trace). same_path u.path vehicle) run.traces t e).0) s (slice_in t.samples tick s g)

    from_filled : (name : SlotName) → ((z : ℤ) → entry_of scene run name ≡ Some z → Between (ends_of scene name) z) → Between (ends_of scene name) (filled scene run name)
    from_filled name f = by (entry_of scene run name) refl
      where
        by : (o : Option ℤ) → entry_of scene run name ≡ o → Between (ends_of scene name) (unwrap_or o (ends_of scene name).low)
        by None e = record { low = self (ends_of scene name).low; high = ends_ordered name }
          where
            self : (z : ℤ) → z ≤ℤ z
            self z = omega (arith, ints)
        by (Some z) e = f z e

    mapped : {A : Type 0} (make : A → ℤ) (o : Option A) (z : ℤ) → option_map make o ≡ Some z → (a : A) × (o ≡ Some a) × (make a ≡ z)
    mapped make None z h = cc
    mapped make (Some a) z h = let is : make a ≡ z = cc in (a, refl, is)

    pub filled_between : (name : SlotName) → Between (ends_of scene name) (filled scene run name)
    filled_between (SlotName.Choice path) = from_filled (SlotName.Choice path) (λ z e. let m = mapped pos (choice_in run path) z e in subst (Between (ends_of scene (SlotName.Choice path))) m.2 (choice_between path m.0 m.1))
    filled_between (SlotName.Start path) = from_filled (SlotName.Start path) (λ z e. let m = mapped (λ (s : Span). pos s.start) (span_in run path) z e in
        let b = span_between path m.0 m.1 in let small : m.0.start ≤ scene.setting.ticks = b.0 in subst (Between (tick_ends scene.setting)) m.2 (record { low = omega (arith, ints); high = omega (arith, ints) }))
    filled_between (SlotName.End path) = from_filled (SlotName.End path) (λ z e. let m = mapped (λ (s : Span). pos s.end) (span_in run path) z e in
        let b = span_between path m.0 m.1 in let small : m.0.end ≤ scene.setting.ticks = b.1 in subst (Between (tick_ends scene.setting)) m.2 (record { low = omega (arith, ints); high = omega (arith, ints) }))
    filled_between (SlotName.Value path) = from_filled (SlotName.Value path) (λ z e. by (held_in run path) z refl e)
      where
        by : (o : Option Held) (z : ℤ) → held_in run path ≡ o → option_and_then (number_of scene.texts) o ≡ Some z → Between (ends_of scene (SlotName.Value path)) z
        by None z f g = cc
        by (Some held) z f g = value_between path held z f g
    filled_between (SlotName.Lane path tick) = from_filled (SlotName.Lane path tick) (λ z e. let m = mapped (λ (s : Sample). s.lane) (sample_in run path tick) z e in
        let b = sample_bounded path tick m.0 m.1 in
        subst (Between (pair (pos 1) (pos scene.setting.lanes))) m.2 (lies_of (pos 1) (pos scene.setting.lanes) m.0.lane
        (left_of (lies_between (pos 1) (pos scene.setting.lanes) m.0.lane) (lies_between (pos 0) (road_end scene.setting) m.0.position && lies_between (pos 0) top_speed m.0.speed) b)))
    filled_between (SlotName.Position path tick) = from_filled (SlotName.Position path tick) (λ z e. let m = mapped (λ (s : Sample). s.position) (sample_in run path tick) z e in
        let b = right_of (lies_between (pos 1) (pos scene.setting.lanes) m.0.lane) (lies_between (pos 0) (road_end scene.setting) m.0.position && lies_between (pos 0) top_speed m.0.speed) (sample_bounded path tick m.0 m.1) in
        subst (Between (pair (pos 0) (road_end scene.setting))) m.2 (lies_of (pos 0) (road_end scene.setting) m.0.position
        (left_of (lies_between (pos 0) (road_end scene.setting) m.0.position) (lies_between (pos 0) top_speed m.0.speed) b)))
    filled_between (SlotName.Speed path tick) = from_filled (SlotName.Speed path tick) (λ z e. let m = mapped (λ (s : Sample). s.speed) (sample_in run path tick) z e in
        let b = right_of (lies_between (pos 1) (pos scene.setting.lanes) m.0.lane) (lies_between (pos 0) (road_end scene.setting) m.0.position && lies_between (pos 0) top_speed m.0.speed) (sample_bounded path tick m.0 m.1) in
        subst (Between (pair (pos 0) top_speed)) m.2 (lies_of (pos 0) top_speed m.0.speed
        (right_of (lies_between (pos 0) (road_end scene.setting) m.0.position) (lies_between (pos 0) top_speed m.0.speed) b)))

    -- ---- the point

    pub point_is_in : IsPointOf (bounds scene) (point_of scene run)
    point_is_in = record {
      as_long = length-map (slot_names scene) (filled scene run) ∙ sym (length-map (slot_names scene) (ends_of scene));
      above = λ slot. subst (λ o. option_map_or (λ (e : Pair). e.low) o (pos 0) ≤ℤ value_of (point_of scene run) slot) (sym (slice_get-map (ends_of scene) (slot_names scene) slot))
          (subst (λ o. option_map_or (λ (e : Pair). e.low) (option_map (ends_of scene) (slice_get (slot_names scene) slot)) (pos 0) ≤ℤ option_map_or (λ v. v) o (pos 0)) (sym (slice_get-map (filled scene run) (slot_names scene) slot))
          (above (slice_get (slot_names scene) slot)));
      below = λ slot. subst (λ o. value_of (point_of scene run) slot ≤ℤ option_map_or (λ (e : Pair). e.high) o (pos 0)) (sym (slice_get-map (ends_of scene) (slot_names scene) slot))
          (subst (λ o. option_map_or (λ v. v) o (pos 0) ≤ℤ option_map_or (λ (e : Pair). e.high) (option_map (ends_of scene) (slice_get (slot_names scene) slot)) (pos 0)) (sym (slice_get-map (filled scene run) (slot_names scene) slot))
          (below (slice_get (slot_names scene) slot)));
    }
      where
        above : (o : Option SlotName) → option_map_or (λ (e : Pair). e.low) (option_map (ends_of scene) o) (pos 0) ≤ℤ option_map_or (λ v. v) (option_map (filled scene run) o) (pos 0)
        above None = omega (arith, ints)
        above (Some name) = (filled_between name).low

        below : (o : Option SlotName) → option_map_or (λ v. v) (option_map (filled scene run) o) (pos 0) ≤ℤ option_map_or (λ (e : Pair). e.high) (option_map (ends_of scene) o) (pos 0)
        below None = omega (arith, ints)
        below (Some name) = (filled_between name).high

    pub named_filled : (name : SlotName) → In name (slot_names scene) → slot_value scene (point_of scene run) name ≡ filled scene run name
    named_filled name i = ap (λ o. option_map_or (λ v. v) o (pos 0)) (slice_get-map (filled scene run) (slot_names scene) (slot_in (slot_names scene) name) ∙ ap (option_map (filled scene run)) (named_at (slot_names scene) name i))
