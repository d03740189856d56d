-- The rule of each item reads slots of the scene alone, and reaches no further than the limit.
use Rattle.std.proofs.Common.{◌≡◌, ℕ, ◌*◌, ◌/◌, ◌≤◌, ◌<◌, refl, sym, ap, ap₂, ◌∙◌, subst, inl, inr, List, [], ◌∷◌, length, Bool, true, ◌&&◌, Option, Some, None, arith, true≢false}
use Rattle.std.proofs.lemmas.Option.{slice_get-map}
use Rattle.std.specs.Prelude.{ℤ, pos, neg_ℤ, ◌≤ℤ◌, int_le, nat_eq, nat_le, nat_lt, unsigned_abs, option_map, slice_get, is_some}
use Rattle.std.specs.Option.{option_map_or}
use Rattle.std.specs.List.{list_all}
use Rattle.std.proofs.Math.Nat.{mul_assoc, mul_comm, mul-le-mul_right}
use Rattle.std.proofs.lemmas.Int.{ints, clamps}
use Rattle.osc_base.specs.declared.path.Path.{Path}
use Rattle.osc_base.specs.declared.listing.SlotName.{SlotName}
use Rattle.osc_base.specs.Paths.{same_path}
use Rattle.box_eval.specs.declared.bounds.Pair.{Pair}
use Rattle.box_eval.specs.Box.{pair}
use Rattle.box_eval.specs.FlatRules.{FlatTerm, Slot, Less, times}
use Rattle.composition.specs.type_heads.Bounds.{least_of, greatest_of}
use Rattle.composition.specs.expr_nodes.Typed.{Info}
use Rattle.composition.specs.expr_nodes.Sizes.{field_reach, field_size, duration_reach, duration_size, duration_scale}
use Rattle.composition.specs.expr_nodes.Sound.{has_size}
use Rattle.composition.specs.declared.spot.ValueSpot.{ValueSpot}
use Rattle.composition.specs.declared.spot.ValueRange.{ValueRange}
use Rattle.composition.specs.declared.spot.PhaseSpot.{PhaseSpot}
use Rattle.composition.specs.Scenes.{Scene, Source, OfRun, OfPhase, OfValue, source, values, phases, has_phase, has_root_do, root_do}
use Rattle.composition.specs.Slots.{slot_names}
use Rattle.composition.specs.Invariants.{value_at, is_small, is_range, is_read}
use Rattle.composition.proofs.Settings.{setting_is}
use Rattle.field_flatten.specs.Ends.{slot_in, ends_of, range_ends, no_ends, bounds}
use Rattle.field_flatten.specs.Shapes.{Layout, read_term, phase_start, phase_end}
use Rattle.field_flatten.specs.Rules.{layout, end_term}
use Rattle.field_flatten.specs.Exactness.{IsExpanded, IsLimited}
use Rattle.field_flatten.proofs.Tests.{left_of, right_of, two_ways, number_is, path_is, In, all_at, any_at, found_in}
use Rattle.field_flatten.proofs.Multiples.{share_of}
use Rattle.field_flatten.proofs.SlotLaw.{named_at, start_named, end_is_named, value_is_named}
use Rattle.field_flatten.proofs.NumberLaw.{duration_of}
use Rattle.field_flatten.proofs.ShapeLaw.{scale_is}
use Rattle.field_flatten.proofs.ShapeReach.{reach_is}
use Rattle.field_flatten.proofs.PointOfRun.{some_less}
use Rattle.field_flatten.proofs.FlatReach.{interval}
use Rattle.field_flatten.proofs.Fitting.{Fits, weaker, whole_fits, slot_fits, gap_fits, times_fits}

pub le_number : (a b : ℕ) → nat_le a b ≡ true → a ≤ b
le_number a b h = grind arith

pub small_number : (z : ℤ) → is_small z ≡ true → unsigned_abs z ≤ field_reach
small_number z h =
    let low = left_of (int_le (neg_ℤ (pos field_reach)) z) (int_le z (pos field_reach)) h in
    let high = right_of (int_le (neg_ℤ (pos field_reach)) z) (int_le z (pos field_reach)) h in
    within z (le_of (neg_ℤ (pos field_reach)) z low) (le_of z (pos field_reach) high)
  where
    le_of : (a b : ℤ) → int_le a b ≡ true → a ≤ℤ b
    le_of a b e = grind (arith, ints)

    within : (y : ℤ) → neg_ℤ (pos field_reach) ≤ℤ y → y ≤ℤ pos field_reach → unsigned_abs y ≤ field_reach
    within y p q = omega (arith, ints)

least_small : (numbers : List ℤ) (m : ℕ) → ((n : ℤ) → In n numbers → unsigned_abs n ≤ m) → unsigned_abs (least_of numbers) ≤ m
least_small [] m f = omega (arith, ints)
least_small (n ∷ []) m f = f n (inl refl)
least_small (n ∷ k ∷ ks) m f = let here = f n (inl refl) in let rest = least_small (k ∷ ks) m (λ z i. f z (inr i)) in omega (arith, ints, clamps)

greatest_small : (numbers : List ℤ) (m : ℕ) → ((n : ℤ) → In n numbers → unsigned_abs n ≤ m) → unsigned_abs (greatest_of numbers) ≤ m
greatest_small [] m f = omega (arith, ints)
greatest_small (n ∷ []) m f = f n (inl refl)
greatest_small (n ∷ k ∷ ks) m f = let here = f n (inl refl) in let rest = greatest_small (k ∷ ks) m (λ z i. f z (inr i)) in omega (arith, ints, clamps)

module _ (scene : Scene) (expanded : IsExpanded scene) (limited : IsLimited scene) (most : ℕ) (large : 1000000000000000 ≤ most) where
  abbrev pub ends : List Pair
  ends = bounds scene

  abbrev pub slot : SlotName → ℕ
  slot = slot_in (slot_names scene)

  abbrev pub at : Layout
  at = layout scene

  -- ---- slots

  pub ends_at : (name : SlotName) → In name (slot_names scene) → slice_get ends (slot name) ≡ Some (ends_of scene name)
  ends_at name i = slice_get-map (ends_of scene) (slot_names scene) (slot name) ∙ ap (option_map (ends_of scene)) (named_at (slot_names scene) name i)

  pub name_fits : (name : SlotName) (m : ℕ) → In name (slot_names scene) → unsigned_abs (ends_of scene name).low ≤ m → unsigned_abs (ends_of scene name).high ≤ m → m ≤ most → Fits ends most (Slot (slot name)) m
  name_fits name m i low high small =
      let is = ends_at name i in
      slot_fits ends most (slot name) m (some_less ends (slot name) (ends_of scene name) is)
      (subst (λ o. unsigned_abs (option_map_or (λ (e : Pair). e.low) o (pos 0)) ≤ m) (sym is) low)
      (subst (λ o. unsigned_abs (option_map_or (λ (e : Pair). e.high) o (pos 0)) ≤ m) (sym is) high) small

  few_ticks : scene.setting.ticks ≤ most
  few_ticks = let few = (setting_is scene.setting expanded.is_scene.setting).few_ticks in omega arith

  phase_spot_of : (path : Path) → has_phase scene path ≡ true → (p : PhaseSpot) × In p (phases scene) × (p.path ≡ path)
  phase_spot_of path h = let p = any_at (λ (q : PhaseSpot). same_path q.path path) (phases scene) h in (p.0, p.1, path_is p.0.path path p.2)

  pub start_fits : (path : Path) → has_phase scene path ≡ true → Fits ends most (phase_start at path) scene.setting.ticks
  start_fits path h = let p = phase_spot_of path h in
      name_fits (SlotName.Start path) scene.setting.ticks (subst (λ q. In (SlotName.Start q) (slot_names scene)) p.2 (start_named scene p.0 p.1)) (omega (arith, ints)) (omega (arith, ints)) few_ticks

  pub end_fits : (path : Path) → has_phase scene path ≡ true → Fits ends most (phase_end at path) scene.setting.ticks
  end_fits path h = let p = phase_spot_of path h in
      name_fits (SlotName.End path) scene.setting.ticks (subst (λ q. In (SlotName.End q) (slot_names scene)) p.2 (end_is_named scene p.0 p.1)) (omega (arith, ints)) (omega (arith, ints)) few_ticks

  tick_low : (name : SlotName) → In name (slot_names scene) → ends_of scene name ≡ pair (pos 0) (pos scene.setting.ticks)
      → (pos 0 ≤ℤ (interval ends (Slot (slot name))).low) × ((interval ends (Slot (slot name))).low ≤ℤ (interval ends (Slot (slot name))).high)
  tick_low name i is =
      let here = ends_at name i ∙ ap Some is in (
        subst (λ o. pos 0 ≤ℤ option_map_or (λ (e : Pair). e.low) o (pos 0)) (sym here) (omega (arith, ints)),
        subst (λ o. option_map_or (λ (e : Pair). e.low) o (pos 0) ≤ℤ option_map_or (λ (e : Pair). e.high) o (pos 0)) (sym here) (omega (arith, ints)),
      )

  pub duration_fits : (path : Path) → has_phase scene path ≡ true → Fits ends most (Less (phase_end at path) (phase_start at path)) scene.setting.ticks
  duration_fits path h =
      let p = phase_spot_of path h in
      let a = tick_low (SlotName.End path) (subst (λ q. In (SlotName.End q) (slot_names scene)) p.2 (end_is_named scene p.0 p.1)) refl in
      let b = tick_low (SlotName.Start path) (subst (λ q. In (SlotName.Start q) (slot_names scene)) p.2 (start_named scene p.0 p.1)) refl in
      gap_fits ends most (phase_end at path) (phase_start at path) scene.setting.ticks (end_fits path h) (start_fits path h) a.0 a.1 b.0 b.1 few_ticks

  pub run_end_fits : Fits ends most (end_term scene slot) scene.setting.ticks
  run_end_fits = two_ways (has_root_do scene) (λ e. rw e (end_fits root_do e)) (λ e. rw e (whole_fits ends most (pos 0) scene.setting.ticks (omega (arith, ints)) few_ticks))

  -- ---- values

  range_small : (range : ValueRange) → is_range range ≡ true → (unsigned_abs (range_ends scene.texts range).low ≤ field_reach) × (unsigned_abs (range_ends scene.texts range).high ≤ field_reach)
  range_small (ValueRange.Between low high) h =
      let rest = right_of (int_le low high) (is_small low && is_small high) h in
      (small_number low (left_of (is_small low) (is_small high) rest), small_number high (right_of (is_small low) (is_small high) rest))
  range_small (ValueRange.Among numbers) h =
      let all = right_of (nat_lt 0 (length numbers)) (list_all is_small numbers) h in
      (least_small numbers field_reach (λ n i. small_number n (all_at is_small numbers all n i)), greatest_small numbers field_reach (λ n i. small_number n (all_at is_small numbers all n i)))
  range_small ValueRange.Chars h = let few = le_number (length scene.texts) field_reach limited.few_texts in (omega (arith, ints), omega (arith, ints))

  pub field_small : field_reach ≤ most
  field_small = omega arith

  pub value_fits : (path : Path) (v : ValueSpot) → value_at scene path ≡ Some v → Fits ends most (Slot (slot (SlotName.Value path))) field_reach
  value_fits path v known =
      let found = found_in (λ (w : ValueSpot). same_path w.path path) (values scene) v known in
      let is = path_is v.path path found.1 in
      let r = range_small v.range (all_at (λ (w : ValueSpot). is_range w.range) (values scene) expanded.is_scene.ranges v found.0) in
      let e : ends_of scene (SlotName.Value path) ≡ range_ends scene.texts v.range = ap (λ o. option_map_or (λ (w : ValueSpot). range_ends scene.texts w.range) o no_ends) known in
      name_fits (SlotName.Value path) field_reach (subst (λ q. In (SlotName.Value q) (slot_names scene)) is (value_is_named scene v found.0))
      (subst (λ p. unsigned_abs p.low ≤ field_reach) (sym e) r.0) (subst (λ p. unsigned_abs p.high ≤ field_reach) (sym e) r.1) field_small

  -- ---- reads

  abbrev pub reading : Info → Path → ℕ → Bool
  reading i path per = is_read scene i path per (source scene path)

  timed_fits : (i : Info) (per : ℕ) (term : FlatTerm) → per ≡ duration_scale → has_size i duration_size ≡ true → Fits ends most term scene.setting.ticks
      → (e k : ℕ) → e ≡ i.scale * k → 0 < k → i.reach * k ≤ most → Fits ends most (times (e / per * scene.setting.tick) term) (i.reach * k)
  timed_fits i per term thousand sized fits e k is above small =
      let s = setting_is scene.setting expanded.is_scene.setting in
      let scales : i.scale ≡ duration_scale = scale_is i duration_size sized in
      let reaches : i.reach ≡ duration_reach = reach_is i duration_size sized in
      let share : e / per ≡ k = ap₂ (λ a b. a / b) (is ∙ ap (λ n. n * k) scales) thousand ∙ share_of duration_scale k (omega arith) in
      let product : scene.setting.ticks * (k * scene.setting.tick) ≡ (scene.setting.ticks * scene.setting.tick) * k =
      ap (λ n. scene.setting.ticks * n) (mul_comm k scene.setting.tick) ∙ sym (mul_assoc scene.setting.ticks scene.setting.tick k) in
      let less : scene.setting.ticks * (k * scene.setting.tick) ≤ i.reach * k = subst (λ n. n ≤ i.reach * k) (sym product) (mul-le-mul_right k (subst (λ n. scene.setting.ticks * scene.setting.tick ≤ n) (sym reaches) s.short)) in
      subst (λ n. Fits ends most (times (n * scene.setting.tick) term) (i.reach * k)) (sym share)
      (weaker ends most (times (k * scene.setting.tick) term) (scene.setting.ticks * (k * scene.setting.tick)) (i.reach * k) less
      (times_fits ends most (k * scene.setting.tick) term scene.setting.ticks s.some_ticks fits (omega arith)))

  pub read_fits : (i : Info) (path : Path) (per : ℕ) → reading i path per ≡ true → 0 < i.scale → (e k : ℕ) → e ≡ i.scale * k → 0 < k → i.reach * k ≤ most → Fits ends most (read_term at path per (source scene path) e) (i.reach * k)
  read_fits i path per h positive e k is above small = by (source scene path) refl h
    where
      by : (s : Source) → source scene path ≡ s → is_read scene i path per s ≡ true → Fits ends most (read_term at path per s e) (i.reach * k)
      by OfRun f g = timed_fits i per (end_term scene slot) (number_is per duration_scale (left_of (nat_eq per duration_scale) (has_size i duration_size) g)) (right_of (nat_eq per duration_scale) (has_size i duration_size) g) run_end_fits e k is above small
      by (OfPhase phase) f g = timed_fits i per (Less (phase_end at phase) (phase_start at phase)) (number_is per duration_scale (left_of (nat_eq per duration_scale) (has_size i duration_size) g))
          (right_of (nat_eq per duration_scale) (has_size i duration_size) g) (duration_fits phase (duration_of scene path phase f).has) e k is above small
      by OfValue f g = of_value (value_at scene path) refl (left_of (is_some (value_at scene path)) (has_size i (field_size per)) g)
        where
          sized : has_size i (field_size per) ≡ true
          sized = right_of (is_some (value_at scene path)) (has_size i (field_size per)) g

          of_value : (o : Option ValueSpot) → value_at scene path ≡ o → is_some o ≡ true → Fits ends most (times (e / per) (Slot (slot (SlotName.Value path)))) (i.reach * k)
          of_value None p q = absurd (true≢false (sym q))
          of_value (Some v) p q =
              let scales : i.scale ≡ per = scale_is i (field_size per) sized in
              let reaches : i.reach ≡ field_reach = reach_is i (field_size per) sized in
              let share : e / per ≡ k = ap₂ (λ a b. a / b) is (sym scales) ∙ share_of i.scale k positive in
              subst (λ n. Fits ends most (times n (Slot (slot (SlotName.Value path)))) (i.reach * k)) (sym share)
              (subst (λ n. Fits ends most (times k (Slot (slot (SlotName.Value path)))) (n * k)) (sym reaches)
              (times_fits ends most k (Slot (slot (SlotName.Value path))) field_reach (omega arith) (value_fits path v p) (subst (λ n. n * k ≤ most) reaches small)))

  pub read_one : (i : Info) (path : Path) (per : ℕ) → reading i path per ≡ true → 1 ≤ i.reach
  read_one i path per h = by (source scene path) h
    where
      by : (s : Source) → is_read scene i path per s ≡ true → 1 ≤ i.reach
      by OfRun g = let is : i.reach ≡ duration_reach = reach_is i duration_size (right_of (nat_eq per duration_scale) (has_size i duration_size) g) in omega arith
      by (OfPhase phase) g = let is : i.reach ≡ duration_reach = reach_is i duration_size (right_of (nat_eq per duration_scale) (has_size i duration_size) g) in omega arith
      by OfValue g = let is : i.reach ≡ field_reach = reach_is i (field_size per) (right_of (is_some (value_at scene path)) (has_size i (field_size per)) g) in omega arith
