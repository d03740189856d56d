-- The rule of a modifier fits.
use Rattle.std.proofs.Common.{◌≡◌, ℕ, zero, suc, ◌*◌, ◌/◌, ◌≤◌, ◌<◌, refl, sym, ap, ap₂, ◌∙◌, subst, inl, List, [], ◌∷◌, ◌++◌, Bool, true, false, ◌&&◌, ◌||◌, not, Option, Some, None, arith, true≢false}
use Rattle.std.specs.Prelude.{pos, negsuc, nat_lt, unwrap_or, option_to_list, flat_map}
use Rattle.std.specs.Option.{option_map_or}
use Rattle.std.specs.List.{list_any}
use Rattle.std.proofs.Math.Nat.{mul_assoc, mul-le-mul_right, le-mul_of_pos_right}
use Rattle.std.proofs.lemmas.Int.{ints}
use Rattle.osc_base.specs.declared.path.Path.{Path}
use Rattle.osc_base.specs.declared.modifier.Kind.{Kind}
use Rattle.osc_base.specs.declared.modifier.Moment.{Moment}
use Rattle.osc_base.specs.declared.listing.SlotName.{SlotName}
use Rattle.osc_base.specs.Comparisons.{greatest_part}
use Rattle.osc_base.specs.LowestTerms.{lcm}
use Rattle.osc_base.specs.Paths.{same_path}
use Rattle.box_eval.specs.declared.bounds.Pair.{Pair}
use Rattle.box_eval.specs.FlatRules.{FlatTerm, FlatRule, Whole, Slot, Sum, Less, Equal, AtMost, Below, times}
use Rattle.modifier_rules.specs.Relations.{position_scale, speed_scale, lane_scale, between, relation_at, moment_at}
use Rattle.composition.specs.expr_nodes.Kinds.{is_number}
use Rattle.composition.specs.expr_nodes.Typed.{Typed, kind, scale, reach}
use Rattle.composition.specs.expr_nodes.Sizes.{field_reach}
use Rattle.composition.specs.expr_nodes.Parts.{is_scalar}
use Rattle.composition.specs.expr_nodes.Sound.{is_sound, each_read}
use Rattle.composition.specs.Scenes.{Scene, Occurrence, ModifierSpot, vehicles, has_phase}
use Rattle.composition.specs.There.{modifier_presence}
use Rattle.composition.specs.Items.{other_of}
use Rattle.composition.specs.Invariants.{are_grounded, is_expression, is_end, has_range, has_other, is_modifier}
use Rattle.composition.proofs.Settings.{setting_is}
use Rattle.field_flatten.specs.Shapes.{Layout, shape, phase_start, phase_end}
use Rattle.field_flatten.specs.Rules.{presence_rules, sample_slots, scale_of, end_of, modifier_rule}
use Rattle.field_flatten.specs.Seen.{has_values}
use Rattle.field_flatten.specs.Exactness.{IsExpanded, IsLimited, are_small_guards, farthest, quantity_reach, end_reach, is_narrow_range, expressions}
use Rattle.field_flatten.proofs.Tests.{left_of, right_of, path_is, In, in_left, in_right, in_flat_map, all_at, any_at}
use Rattle.field_flatten.proofs.Multiples.{common, share_of}
use Rattle.field_flatten.proofs.Fitting.{Fits, RuleFits, AllRules, whole_fits, sum_fits, times_fits, equal_fits, at_most_fits, below_fits, both_fits, under_fits}
use Rattle.field_flatten.proofs.PhaseReach.{appended, single}
use Rattle.field_flatten.proofs.ShapeReach.{reaches}
use Rattle.field_flatten.proofs.ItemReach.{ends, slot, at, start_fits, end_fits, reading, read_fits, read_one}
use Rattle.field_flatten.proofs.ConstraintReach.{presence_fit}
use Rattle.field_flatten.proofs.MotionReach.{lane_fits, position_fits, speed_fits, position_gap, speed_gap}

implied : (a b : Bool) → not a || b ≡ true → a ≡ true → b ≡ true
implied true b h e = h
implied false b h e = absurd (true≢false (sym e))

not_true : (b : Bool) → not b ≡ true → b ≡ false
not_true true e = absurd (true≢false (sym e))
not_true false e = refl

share_above : (a b n : ℕ) → n ≡ a * b → 0 < n → 0 < b
share_above a zero n is h = absurd (let zero_is : a * 0 ≡ 0 = omega arith in omega arith)
share_above a (suc b) n is h = omega arith

module _ (scene : Scene) (expanded : IsExpanded scene) (limited : IsLimited scene) (most : ℕ) (large : 1000000000000000 ≤ most) (wide : (n : ℕ) → nat_lt greatest_part n ≡ false → n ≤ most) where
  abbrev box : List Pair
  box = ends scene expanded limited most large

  abbrev Fit : FlatRule → Type 0
  Fit rule = RuleFits box most rule

  abbrev FitAll : List FlatRule → Type 0
  FitAll rules = AllRules box most rules

  abbrev layed : Layout
  layed = at scene expanded limited most large

  abbrev number : SlotName → ℕ
  number = slot scene expanded limited most large

  -- ---- quantities between two ends

  -- an end at its scale, and at the scale at which it is compared
  record EndFits (term : FlatTerm) (e : ℕ) : Type 0 where
    most_at : ℕ
    one : 1 ≤ most_at
    fits : Fits box most term most_at
    small : most_at * (lcm position_scale e / e) ≤ most

  between_fits : (unit bound : ℕ) (quantity low high : FlatTerm) (e : ℕ) → 1 ≤ bound → bound * (lcm position_scale e / unit) ≤ quantity_reach * lcm position_scale e → Fits box most quantity bound
      → EndFits low e → EndFits high e → quantity_reach * lcm position_scale e ≤ most → Fit (between unit quantity low high e)
  between_fits unit bound quantity low high e one less q l h small =
      let common = lcm position_scale e in
      let middle : Fits box most (times (common / unit) quantity) (bound * (common / unit)) = times_fits box most (common / unit) quantity bound one q (omega (arith, less, small)) in
      let first = times_fits box most (common / e) low l.most_at l.one l.fits l.small in
      let last = times_fits box most (common / e) high h.most_at h.one h.fits h.small in
      both_fits box most (AtMost (times (common / e) low) (times (common / unit) quantity)) (AtMost (times (common / unit) quantity) (times (common / e) high))
      (at_most_fits box most (times (common / e) low) (times (common / unit) quantity) (l.most_at * (common / e)) (bound * (common / unit)) first middle)
      (at_most_fits box most (times (common / unit) quantity) (times (common / e) high) (bound * (common / unit)) (h.most_at * (common / e)) middle last)

  relation_fits : (kind : Kind) (v w : Path) (t : ℕ) (low high : FlatTerm) (e : ℕ) → In v (vehicles scene) → (has_other kind ≡ true → In w (vehicles scene)) → t ≤ scene.setting.ticks
      → quantity_reach * lcm position_scale e ≤ most → (has_range kind ≡ true → EndFits low e × EndFits high e)
      → Fit (relation_at kind (sample_slots layed v t) (sample_slots layed w t) low high e)
  relation_fits kind v w t low high e i other small far fits = by kind other fits
    where
      lane : (u : Path) → In u (vehicles scene) → Fits box most (Slot (number (SlotName.Lane u t))) 8
      lane u j = lane_fits scene expanded limited most large wide u t j small

      speed : Fits box most (Slot (number (SlotName.Speed v t))) field_reach
      speed = speed_fits scene expanded limited most large wide v t i small

      gap : (a b : Path) → In a (vehicles scene) → In b (vehicles scene) → Fits box most (Less (Slot (number (SlotName.Speed a t))) (Slot (number (SlotName.Speed b t)))) field_reach
      gap a b j k = speed_gap scene expanded limited most large wide a b t t j k small small

      by : (k : Kind) → (has_other k ≡ true → In w (vehicles scene)) → (has_range k ≡ true → EndFits low e × EndFits high e) → Fit (relation_at k (sample_slots layed v t) (sample_slots layed w t) low high e)
      by Kind.Speed o f = between_fits speed_scale field_reach (Slot (number (SlotName.Speed v t))) low high e (omega arith) (omega arith) speed (f refl).0 (f refl).1 far
      by Kind.FasterThan o f = between_fits speed_scale field_reach (Less (Slot (number (SlotName.Speed v t))) (Slot (number (SlotName.Speed w t)))) low high e (omega arith) (omega arith) (gap v w i (o refl)) (f refl).0 (f refl).1 far
      by Kind.SlowerThan o f = between_fits speed_scale field_reach (Less (Slot (number (SlotName.Speed w t))) (Slot (number (SlotName.Speed v t)))) low high e (omega arith) (omega arith) (gap w v (o refl) i) (f refl).0 (f refl).1 far
      by Kind.SameSpeed o f = equal_fits box most (Slot (number (SlotName.Speed v t))) (Slot (number (SlotName.Speed w t))) field_reach field_reach speed (speed_fits scene expanded limited most large wide w t (o refl) small)
      by Kind.Lane o f = between_fits lane_scale 8 (Slot (number (SlotName.Lane v t))) low high e (omega arith) (omega arith) (lane v i) (f refl).0 (f refl).1 far
      by Kind.SameLane o f = equal_fits box most (Slot (number (SlotName.Lane v t))) (Slot (number (SlotName.Lane w t))) 8 8 (lane v i) (lane w (o refl))
      by Kind.LeftOf o f = equal_fits box most (Slot (number (SlotName.Lane v t))) (Sum (Slot (number (SlotName.Lane w t))) (Whole (pos 1))) 8 9 (lane v i)
          (sum_fits box most (Slot (number (SlotName.Lane w t))) (Whole (pos 1)) 8 1 (lane w (o refl)) (whole_fits box most (pos 1) 1 (omega (arith, ints)) (omega arith)) (omega arith))
      by Kind.RightOf o f = equal_fits box most (Slot (number (SlotName.Lane v t))) (Sum (Slot (number (SlotName.Lane w t))) (Whole (negsuc 0))) 8 9 (lane v i)
          (sum_fits box most (Slot (number (SlotName.Lane w t))) (Whole (negsuc 0)) 8 1 (lane w (o refl)) (whole_fits box most (negsuc 0) 1 (omega (arith, ints)) (omega arith)) (omega arith))
      by Kind.Position o f = between_fits position_scale farthest (Slot (number (SlotName.Position v t))) low high e (omega arith) (omega arith) (position_fits scene expanded limited most large wide v t i small) (f refl).0 (f refl).1 far
      by Kind.AheadOf o f = between_fits position_scale farthest (Less (Slot (number (SlotName.Position v t))) (Slot (number (SlotName.Position w t)))) low high e (omega arith) (omega arith) (position_gap scene expanded limited most large wide v w t i (o refl) small) (f refl).0 (f refl).1 far
      by Kind.Behind o f = between_fits position_scale farthest (Less (Slot (number (SlotName.Position w t))) (Slot (number (SlotName.Position v t)))) low high e (omega arith) (omega arith) (position_gap scene expanded limited most large wide w v t (o refl) i small) (f refl).0 (f refl).1 far

  -- ---- ends

  -- what a range's end is: an expression that fits at each multiple of its scale
  record EndOf (typed : Option Typed) : Type 0 where
    term : Typed
    is : typed ≡ Some term
    above : 0 < scale term
    one : 1 ≤ reach term
    terms : (e k : ℕ) → e ≡ scale term * k → 0 < k → reach term * k ≤ most → Fits box most ((shape layed term).term e) (reach term * k)

  end_known : (typed : Option Typed) → option_map_or (is_end scene) typed false ≡ true → ((t : Typed) → typed ≡ Some t → has_values t ≡ true) → EndOf typed
  end_known None h v = absurd (true≢false (sym h))
  end_known (Some t) h v =
      let rest = right_of (is_scalar t) (is_sound t && each_read (reading scene expanded limited most large) t) (right_of (is_number (kind t)) (is_expression scene t) h) in
      let node = reaches box most (omega arith) wide layed (reading scene expanded limited most large) (read_fits scene expanded limited most large) (read_one scene expanded limited most large) t
      (left_of (is_sound t) (each_read (reading scene expanded limited most large) t) rest) (v t refl) (right_of (is_sound t) (each_read (reading scene expanded limited most large) t) rest) in
      record { term = t; is = refl; above = node.sized.above; one = node.sized.one; terms = node.sized.terms }

  end_fit : (typed : Option Typed) (n : EndOf typed) (own k : ℕ) → own ≡ scale_of typed * k → 0 < own → end_reach typed * (own / scale_of typed) * (lcm position_scale own / own) ≤ most → EndFits (end_of layed typed own) own
  end_fit typed n own k is positive small =
      let scales : scale_of typed ≡ scale n.term = ap scale_of n.is in
      let reached : end_reach typed ≡ reach n.term = ap end_reach n.is in
      let own_is : own ≡ scale n.term * k = is ∙ ap (λ s. s * k) scales in
      let above : 0 < k = share_above (scale n.term) k own own_is positive in
      let share : own / scale_of typed ≡ k = ap₂ (λ a b. a / b) own_is scales ∙ share_of (scale n.term) k n.above in
      let c = common position_scale own (omega arith) positive in
      let factor : lcm position_scale own / own ≡ c.right = ap (λ m. m / own) c.right_is ∙ share_of own c.right positive in
      let some : 1 ≤ lcm position_scale own / own = subst (λ m. 1 ≤ m) (sym factor) (share_above own c.right (lcm position_scale own) c.right_is c.above) in
      let whole : reach n.term * k * (lcm position_scale own / own) ≤ most = subst (λ m. m * (lcm position_scale own / own) ≤ most) (ap₂ (◌*◌) reached share) small in
      let part : reach n.term * k ≤ reach n.term * k * (lcm position_scale own / own) = le-mul_of_pos_right (reach n.term * k) some in
      record {
        most_at = reach n.term * k;
        one = above_product (reach n.term) k n.one above;
        fits = subst (λ o. Fits box most (end_of layed o own) (reach n.term * k)) (sym n.is) (n.terms own k own_is above (omega arith));
        small = whole;
      }
    where
      above_product : (a b : ℕ) → 1 ≤ a → 0 < b → 1 ≤ a * b
      above_product a b p q = omega (arith, mul-le-mul_right b p)

  -- ---- modifiers

  moments_fit : (moment : Moment) (start end : FlatTerm) (t m : ℕ) → t ≤ most → Fits box most start m → Fits box most end m → FitAll (moment_at moment start end t)
  moments_fit moment start end t m small f g = by moment
    where
      tick : Fits box most (Whole (pos t)) t
      tick = whole_fits box most (pos t) t (omega (arith, ints)) small

      by : (k : Moment) → FitAll (moment_at k start end t)
      by Moment.Start = single box most 0 layed (Equal start (Whole (pos t))) (equal_fits box most start (Whole (pos t)) m t f tick)
      by Moment.End = single box most 0 layed (Equal end (Whole (pos t))) (equal_fits box most end (Whole (pos t)) m t g tick)
      by Moment.All = appended box most 0 layed (AtMost start (Whole (pos t)) ∷ []) (Below (Whole (pos t)) end ∷ [])
          (single box most 0 layed (AtMost start (Whole (pos t))) (at_most_fits box most start (Whole (pos t)) m t f tick))
          (single box most 0 layed (Below (Whole (pos t)) end) (below_fits box most (Whole (pos t)) end t m tick g))

  vehicle_in : (v : Path) → list_any (same_path v) (vehicles scene) ≡ true → In v (vehicles scene)
  vehicle_in v h = let f = any_at (same_path v) (vehicles scene) h in subst (λ p. In p (vehicles scene)) (sym (path_is v f.0 f.2)) f.1

  abbrev scaled : ModifierSpot → ℕ
  scaled m = lcm position_scale (lcm (scale_of m.low) (scale_of m.high))

  abbrev Ranges : ModifierSpot → Bool
  Ranges m = not (has_range m.kind) || (option_map_or (is_end scene) m.low false && option_map_or (is_end scene) m.high false)

  abbrev Others : ModifierSpot → Bool
  Others m = not (has_other m.kind) || option_map_or (λ (v : Path). list_any (same_path v) (vehicles scene)) m.other false

  range_fits : (m : ModifierSpot) → In m scene.modifiers → Ranges m ≡ true → is_narrow_range m ≡ true → has_range m.kind ≡ true → EndFits (end_of layed m.low (scaled m)) (scaled m) × EndFits (end_of layed m.high (scaled m)) (scaled m)
  range_fits m i h narrow ranged =
      let ends_there = implied (has_range m.kind) (option_map_or (is_end scene) m.low false && option_map_or (is_end scene) m.high false) h ranged in
      let low = end_known m.low (left_of (option_map_or (is_end scene) m.low false) (option_map_or (is_end scene) m.high false) ends_there)
      (λ t e. listed t (in_left t (option_to_list m.low) (option_to_list m.high) (subst (λ o. In t (option_to_list o)) (sym e) (inl refl)))) in
      let high = end_known m.high (right_of (option_map_or (is_end scene) m.low false) (option_map_or (is_end scene) m.high false) ends_there)
      (λ t e. listed t (in_right t (option_to_list m.low) (option_to_list m.high) (subst (λ o. In t (option_to_list o)) (sym e) (inl refl)))) in
      let a = scale_of m.low in
      let b = scale_of m.high in
      let inner = common a b (subst (λ n. 0 < n) (sym (ap scale_of low.is)) low.above) (subst (λ n. 0 < n) (sym (ap scale_of high.is)) high.above) in
      let outer = common position_scale (lcm a b) (omega arith) inner.above in
      let rest = right_of (not (nat_lt greatest_part (quantity_reach * lcm position_scale (scaled m)))) _ narrow in (
        end_fit m.low low (scaled m) (inner.left * outer.right) (outer.right_is ∙ ap (λ n. n * outer.right) inner.left_is ∙ mul_assoc a inner.left outer.right) outer.above
            (wide (end_reach m.low * (scaled m / a) * (lcm position_scale (scaled m) / scaled m)) (not_true (nat_lt greatest_part (end_reach m.low * (scaled m / a) * (lcm position_scale (scaled m) / scaled m))) (left_of _ _ rest))),
        end_fit m.high high (scaled m) (inner.right * outer.right) (outer.right_is ∙ ap (λ n. n * outer.right) inner.right_is ∙ mul_assoc b inner.right outer.right) outer.above
            (wide (end_reach m.high * (scaled m / b) * (lcm position_scale (scaled m) / scaled m)) (not_true (nat_lt greatest_part (end_reach m.high * (scaled m / b) * (lcm position_scale (scaled m) / scaled m))) (right_of _ _ rest))),
      )
    where
      listed : (t : Typed) → In t (option_to_list m.low ++ option_to_list m.high) → has_values t ≡ true
      listed t j = all_at has_values (expressions scene) expanded.all_values t
          (in_right t (flat_map (λ (o : Occurrence). option_to_list o.typed) scene.occurrences) (flat_map (λ (n : ModifierSpot). option_to_list n.low ++ option_to_list n.high) scene.modifiers)
          (in_flat_map (λ (n : ModifierSpot). option_to_list n.low ++ option_to_list n.high) scene.modifiers m t i j))

  pub modifier_fits : (m : ModifierSpot) (t : ℕ) → In m scene.modifiers → t ≤ scene.setting.ticks → Fit (modifier_rule scene layed m t)
  modifier_fits m t i small =
      let sound = all_at (is_modifier scene) scene.modifiers expanded.is_scene.modifiers m i in
      let first = left_of (has_phase scene m.phase && list_any (same_path m.own) (vehicles scene)) (Others m && Ranges m) sound in
      let rest = right_of (has_phase scene m.phase && list_any (same_path m.own) (vehicles scene)) (Others m && Ranges m) sound in
      let known = left_of (has_phase scene m.phase) (list_any (same_path m.own) (vehicles scene)) first in
      let own = vehicle_in m.own (right_of (has_phase scene m.phase) (list_any (same_path m.own) (vehicles scene)) first) in
      let narrow = all_at is_narrow_range scene.modifiers limited.narrow_ranges m i in
      let far : quantity_reach * lcm position_scale (scaled m) ≤ most = wide (quantity_reach * lcm position_scale (scaled m)) (not_true (nat_lt greatest_part (quantity_reach * lcm position_scale (scaled m))) (left_of _ _ narrow)) in
      let ticks = (setting_is scene.setting expanded.is_scene.setting).few_ticks in
      let few : t ≤ most = omega arith in
      let relation : FlatRule = relation_at m.kind (sample_slots layed m.own t) (sample_slots layed (other_of m) t) (end_of layed m.low (scaled m)) (end_of layed m.high (scaled m)) (scaled m) in
      under_fits box most (presence_rules layed (modifier_presence scene m) ++ moment_at m.moment (phase_start layed m.phase) (phase_end layed m.phase) t) relation
      (appended box most 0 layed (presence_rules layed (modifier_presence scene m)) (moment_at m.moment (phase_start layed m.phase) (phase_end layed m.phase) t)
      (presence_fit scene expanded limited most large wide (modifier_presence scene m) (all_at (λ (n : ModifierSpot). are_grounded scene [] (modifier_presence scene n)) scene.modifiers expanded.is_scene.modifiers_grounded m i)
      (all_at (λ (n : ModifierSpot). are_small_guards (modifier_presence scene n)) scene.modifiers limited.modifiers_small m i))
      (moments_fit m.moment (phase_start layed m.phase) (phase_end layed m.phase) t scene.setting.ticks few (start_fits scene expanded limited most large m.phase known) (end_fits scene expanded limited most large m.phase known)))
      (relation_fits m.kind m.own (other_of m) t (end_of layed m.low (scaled m)) (end_of layed m.high (scaled m)) (scaled m) own
      (λ e. other m.other (implied (has_other m.kind) (option_map_or (λ (v : Path). list_any (same_path v) (vehicles scene)) m.other false) (left_of (Others m) (Ranges m) rest) e))
      small far (range_fits m i (right_of (Others m) (Ranges m) rest) narrow))
    where
      other : (o : Option Path) → option_map_or (λ (v : Path). list_any (same_path v) (vehicles scene)) o false ≡ true → In (unwrap_or o m.own) (vehicles scene)
      other None g = absurd (true≢false (sym g))
      other (Some v) g = vehicle_in v g
