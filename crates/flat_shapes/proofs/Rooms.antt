-- A sound expression has room at each multiple of its scale at which its reach is within the limit.
use Rattle.std.proofs.Common.{◌≡◌, ℕ, zero, suc, ◌+◌, ◌*◌, ◌/◌, ◌≤◌, ◌<◌, max, refl, sym, ap, ap₂, ◌∙◌, subst, Bool, true, false, ◌&&◌, ◌||◌, not, [], arith, true≢false}
use Rattle.std.specs.Prelude.{nat_eq, nat_le, nat_lt, int_le, pos, unsigned_abs}
use Rattle.std.specs.List.{list_all}
use Rattle.std.proofs.Math.Nat.{mul_assoc, add-mul, mul-le-mul_right}
use Rattle.expr_nodes.specs.osc_base.Number.{Number}
use Rattle.expr_nodes.specs.osc_base.LowestTerms.{lcm}
use Rattle.expr_nodes.specs.osc_base.Comparisons.{greatest_part}
use Rattle.expr_nodes.specs.Kinds.{is_number, is_truth, same_units}
use Rattle.expr_nodes.specs.Typed.{Typed, Info, Constant, Read, Whole, Listed, Span, Minus, Not, Sum, Times, And, Or, Implies, Relation, Within, TypedRow, End, Item, info, kind, scale, reach, items_of}
use Rattle.expr_nodes.specs.Sizes.{Size, size, field_reach, duration_reach, constant_size, field_size, duration_size, unit_size, joined, multiplied, is_wide}
use Rattle.expr_nodes.specs.Parts.{is_scalar, parts_of}
use Rattle.expr_nodes.specs.Operators.{fit_for, fits_in, is_range_or_list}
use Rattle.expr_nodes.specs.Sound.{same_size, has_size, is_lowest, is_constant_of, is_per, are_truths, is_truth_info, can_join, is_sound, are_sound}
use Rattle.flat_terms.specs.field_flatten.Seen.{has_values, have_values}
use Rattle.flat_terms.specs.field_flatten.Shapes.{Layout}
use Rattle.flat_terms.proofs.of_field_flatten.Tests.{left_of, right_of, two_ways, number_is}
use Rattle.flat_terms.proofs.of_field_flatten.Multiples.{common, share_of, product_positive, lcm_swap}
use Rattle.flat_terms.proofs.of_field_flatten.ShapeLaw.{scale_is, law, per_law, read_scale, number_no_truth, units_no_truth}
use Rattle.flat_terms.proofs.of_field_flatten.ShapeReach.{reach_is}
use Rattle.flat_shapes.specs.Room.{longest_tick, is_small, own_scale, can_meet, has_room, can_hold, can_equal}

-- a factor above 0 of a number above 0
factor_above : (a b n : ℕ) → n ≡ a * b → 0 < n → 0 < b
factor_above a zero n is h = absurd (let zero_is : a * 0 ≡ 0 = omega arith in omega arith)
factor_above a (suc b) n is h = omega arith

not_true : (b : Bool) → not b ≡ true → b ≡ false
not_true true e = absurd (true≢false (sym e))
not_true false e = refl

first_false : (a b : Bool) → a || b ≡ false → a ≡ false
first_false true b e = absurd (true≢false e)
first_false false b e = refl

second_false : (a b : Bool) → a || b ≡ false → b ≡ false
second_false true b e = absurd (true≢false e)
second_false false b e = e

both_true : (a b : Bool) → a ≡ true → b ≡ true → a && b ≡ true
both_true true b h k = k
both_true false b h k = h

at_most_true : (n m : ℕ) → n ≤ m → nat_le n m ≡ true
at_most_true n m h = grind arith

above_true : (n : ℕ) → 0 < n → nat_lt 0 n ≡ true
above_true n h = grind arith

module _ (most : ℕ) (one_most : 1 ≤ most) (small_is : (n : ℕ) → n ≤ most → is_small n ≡ true) (wide : (n : ℕ) → nat_lt greatest_part n ≡ false → n ≤ most) (at : Layout) where
  pub record RoomLaw (t : Typed) : Type 0 where
    pub above : 0 < scale t
    pub one : 1 ≤ reach t
    pub small : reach t ≤ most
    pub scaled : scale t ≤ most
    pub own : own_scale t ≡ scale t
    pub unit : is_truth (kind t) ≡ true → scale t ≡ 1
    pub room : (e k : ℕ) → e ≡ scale t * k → 0 < k → reach t * k ≤ most → e ≤ most → has_room e t ≡ true

  narrow : (i : Info) (s : Size) → has_size i s ≡ true → (i.reach ≤ most) × (i.scale ≤ most)
  narrow i s h =
      let here : Size = record { scale = i.scale; reach = i.reach } in
      let few = not_true (is_wide s) (right_of (same_size here s) (not (is_wide s)) h) in (
        rw (reach_is i s h) (wide s.reach (second_false (nat_lt greatest_part s.scale) (nat_lt greatest_part s.reach) few)),
        rw (scale_is i s h) (wide s.scale (first_false (nat_lt greatest_part s.scale) (nat_lt greatest_part s.reach) few)),
      )

  once : (n : ℕ) → n ≡ n * 1
  once n = omega arith

  -- at its own scale
  own_room : (t : Typed) → RoomLaw t → has_room (own_scale t) t ≡ true
  own_room t r = subst (λ e. has_room e t ≡ true) (sym r.own) (r.room (scale t) 1 (once (scale t)) (omega arith) (subst (λ n. n ≤ most) (once (reach t)) r.small) r.scaled)

  -- as a rule
  rule_room : (t : Typed) → is_truth (kind t) ≡ true → RoomLaw t → has_room 1 t ≡ true
  rule_room t truth r = subst (λ e. has_room e t ≡ true) (r.own ∙ r.unit truth) (own_room t r)

  -- ---- leaves

  unit_law : (t : Typed) → own_scale t ≡ 1 → has_size (info t) unit_size ≡ true → ((e : ℕ) → e ≤ most → has_room e t ≡ true) → RoomLaw t
  unit_law t own sized f =
      let scale_one : scale t ≡ 1 = scale_is (info t) unit_size sized in
      let reach_one : reach t ≡ 1 = reach_is (info t) unit_size sized in
      let n = narrow (info t) unit_size sized in
      record { above = omega (arith, scale_one); one = omega (arith, reach_one); small = n.0; scaled = n.1; own = own ∙ sym scale_one; unit = λ _. scale_one; room = λ e k is p few small. f e small }

  constant_law : (i : Info) (n : Number) → is_constant_of i.kind n && has_size i (constant_size n) ≡ true → 0 < i.scale → RoomLaw (Constant i n)
  constant_law i n h above =
      let sized = right_of (is_constant_of i.kind n) (has_size i (constant_size n)) h in
      let kinds = left_of (is_constant_of i.kind n) (has_size i (constant_size n)) h in
      let scales : i.scale ≡ unsigned_abs n.denominator = scale_is i (constant_size n) sized in
      let reaches : i.reach ≡ max 1 (unsigned_abs n.numerator) = reach_is i (constant_size n) sized in
      let few = narrow i (constant_size n) sized in
      record {
        above = above;
        one = omega (arith, reaches);
        small = few.0;
        scaled = few.1;
        own = refl;
        unit = λ t. scales ∙ whole t (right_of (is_lowest n) _ kinds);
        room = λ e k is positive small fits.
            let share : e / unsigned_abs n.denominator ≡ k = ap₂ (λ a b. a / b) is (sym scales) ∙ share_of i.scale k above in
            let less : unsigned_abs n.numerator ≤ i.reach = omega (arith, reaches) in
            both_true (is_small (unsigned_abs n.numerator * (e / unsigned_abs n.denominator))) (is_small e)
            (small_is (unsigned_abs n.numerator * (e / unsigned_abs n.denominator)) (rw share (omega (arith, mul-le-mul_right k less, small)))) (small_is e fits);
      }
    where
      whole : is_truth i.kind ≡ true → not (is_truth i.kind) || ((nat_eq (unsigned_abs n.denominator) 1 && int_le (pos 0) n.numerator) && int_le n.numerator (pos 1)) ≡ true → unsigned_abs n.denominator ≡ 1
      whole t g =
          let rest : (nat_eq (unsigned_abs n.denominator) 1 && int_le (pos 0) n.numerator) && int_le n.numerator (pos 1) ≡ true = rw t at g in
          number_is (unsigned_abs n.denominator) 1
          (left_of (nat_eq (unsigned_abs n.denominator) 1) (int_le (pos 0) n.numerator) (left_of (nat_eq (unsigned_abs n.denominator) 1 && int_le (pos 0) n.numerator) (int_le n.numerator (pos 1)) rest))

  read_law : (i : Info) (t : Typed) (per : ℕ) → info t ≡ i → own_scale t ≡ scale t → ((e : ℕ) → has_room e t ≡ nat_lt 0 per && is_small (e / per * longest_tick))
      → is_per i.kind per && (has_size i (field_size per) || (nat_eq per 1000 && has_size i duration_size)) ≡ true → RoomLaw t
  read_law i t per is own f h =
      let rest = right_of (is_per i.kind per) (has_size i (field_size per) || (nat_eq per 1000 && has_size i duration_size)) h in
      let p = per_law i.kind per (left_of (is_per i.kind per) (has_size i (field_size per) || (nat_eq per 1000 && has_size i duration_size)) h) in
      let scales : i.scale ≡ per = read_scale i per rest in
      let other : has_size i (field_size per) ≡ false → has_size i duration_size ≡ true =
      λ e. let left : nat_eq per 1000 && has_size i duration_size ≡ true = rw e at rest in right_of (nat_eq per 1000) (has_size i duration_size) left in
      let one : 1 ≤ i.reach = two_ways (has_size i (field_size per)) (λ e. let r : i.reach ≡ field_reach = reach_is i (field_size per) e in omega (arith, r))
      (λ e. let r : i.reach ≡ duration_reach = reach_is i duration_size (other e) in omega (arith, r)) in
      let long : longest_tick ≤ i.reach = two_ways (has_size i (field_size per)) (λ e. let r : i.reach ≡ field_reach = reach_is i (field_size per) e in omega (arith, r))
      (λ e. let r : i.reach ≡ duration_reach = reach_is i duration_size (other e) in omega (arith, r)) in
      let few : (i.reach ≤ most) × (i.scale ≤ most) = two_ways (has_size i (field_size per)) (narrow i (field_size per)) (λ e. narrow i duration_size (other e)) in
      record {
        above = subst (λ (j : Info). 0 < j.scale) (sym is) (subst (λ n. 0 < n) (sym scales) p.above);
        one = subst (λ (j : Info). 1 ≤ j.reach) (sym is) one;
        small = subst (λ (j : Info). j.reach ≤ most) (sym is) few.0;
        scaled = subst (λ (j : Info). j.scale ≤ most) (sym is) few.1;
        own = own;
        unit = λ truth. ap (λ (j : Info). j.scale) is ∙ scales ∙ p.of_truth_one (subst (λ (j : Info). is_truth j.kind ≡ true) is truth);
        room = λ e k m q s fits.
            let share : e / per ≡ k = ap₂ (λ a b. a / b) (m ∙ ap (λ (j : Info). j.scale * k) is) (sym scales) ∙ share_of i.scale k (subst (λ n. 0 < n) (sym scales) p.above) in
            let wide : longest_tick ≤ reach t = subst (λ (j : Info). longest_tick ≤ j.reach) (sym is) long in
            f e ∙ both_true (nat_lt 0 per) (is_small (e / per * longest_tick)) (above_true per p.above) (small_is (e / per * longest_tick) (rw share (omega (arith, mul-le-mul_right k wide, s))));
      }

  -- ---- two sides

  record AtCommon (a b : Typed) : Type 0 where
    left : ℕ
    right : ℕ
    left_is : lcm (scale a) (scale b) ≡ scale a * left
    right_is : lcm (scale a) (scale b) ≡ scale b * right
    above : 0 < lcm (scale a) (scale b)
    left_above : 0 < left
    right_above : 0 < right
    total : (joined (size a) (size b)).reach ≡ reach a * left + reach b * right

  at_both : (a b : Typed) → RoomLaw a → RoomLaw b → AtCommon a b
  at_both a b r s =
      let c = common (scale a) (scale b) r.above s.above in
      record {
        left = c.left;
        right = c.right;
        left_is = c.left_is;
        right_is = c.right_is;
        above = c.above;
        left_above = factor_above (scale a) c.left (lcm (scale a) (scale b)) c.left_is c.above;
        right_above = factor_above (scale b) c.right (lcm (scale a) (scale b)) c.right_is c.above;
        total = ap₂ (λ x y. reach a * x + reach b * y) (ap (λ n. n / scale a) c.left_is ∙ share_of (scale a) c.left r.above) (ap (λ n. n / scale b) c.right_is ∙ share_of (scale b) c.right s.above);
      }

  -- both have room at their common scale
  record Meets (a b : Typed) : Type 0 where
    small : is_small (lcm (scale a) (scale b)) ≡ true
    left : has_room (lcm (scale a) (scale b)) a ≡ true
    right : has_room (lcm (scale a) (scale b)) b ≡ true

  meets : (a b : Typed) → RoomLaw a → RoomLaw b → can_join a b ≡ true → Meets a b
  meets a b r s h =
      let c = at_both a b r s in
      let few = not_true (is_wide (joined (size a) (size b))) h in
      let scaled : lcm (scale a) (scale b) ≤ most = wide (lcm (scale a) (scale b)) (first_false (nat_lt greatest_part (lcm (scale a) (scale b))) (nat_lt greatest_part (joined (size a) (size b)).reach) few) in
      let reached : (joined (size a) (size b)).reach ≤ most = wide (joined (size a) (size b)).reach (second_false (nat_lt greatest_part (lcm (scale a) (scale b))) (nat_lt greatest_part (joined (size a) (size b)).reach) few) in
      let sum : reach a * c.left + reach b * c.right ≤ most = subst (λ n. n ≤ most) c.total reached in
      record {
        small = small_is (lcm (scale a) (scale b)) scaled;
        left = r.room (lcm (scale a) (scale b)) c.left c.left_is c.left_above (omega (arith, sum)) scaled;
        right = s.room (lcm (scale a) (scale b)) c.right c.right_is c.right_above (omega (arith, sum)) scaled;
      }

  -- the same by the scales of shapes, in either order
  meet : (a b : Typed) → RoomLaw a → RoomLaw b → can_join a b ≡ true → can_meet (own_scale a) (λ c. has_room c a) (own_scale b) (λ c. has_room c b) ≡ true
  meet a b r s h =
      let m = meets a b r s h in
      subst (λ c. is_small c && (has_room c a && has_room c b) ≡ true) (ap₂ lcm (sym r.own) (sym s.own))
      (both_true (is_small (lcm (scale a) (scale b))) (has_room (lcm (scale a) (scale b)) a && has_room (lcm (scale a) (scale b)) b) m.small
      (both_true (has_room (lcm (scale a) (scale b)) a) (has_room (lcm (scale a) (scale b)) b) m.left m.right))

  meet_swapped : (a b : Typed) → RoomLaw a → RoomLaw b → can_join a b ≡ true → can_meet (own_scale b) (λ c. has_room c b) (own_scale a) (λ c. has_room c a) ≡ true
  meet_swapped a b r s h =
      let m = meets a b r s h in
      subst (λ c. is_small c && (has_room c b && has_room c a) ≡ true) (lcm_swap (scale a) (scale b) r.above s.above ∙ ap₂ lcm (sym s.own) (sym r.own))
      (both_true (is_small (lcm (scale a) (scale b))) (has_room (lcm (scale a) (scale b)) b && has_room (lcm (scale a) (scale b)) a) m.small
      (both_true (has_room (lcm (scale a) (scale b)) b) (has_room (lcm (scale a) (scale b)) a) m.right m.left))

  -- ---- nodes

  minus_law : (i : Info) (part : Typed) → has_size i (size part) ≡ true → (is_truth i.kind ≡ true → i.scale ≡ 1) → RoomLaw part → RoomLaw (Minus i part)
  minus_law i part h unit r =
      let scales : i.scale ≡ scale part = scale_is i (size part) h in
      let reaches : i.reach ≡ reach part = reach_is i (size part) h in
      let few = narrow i (size part) h in
      record {
        above = rw scales r.above;
        one = rw reaches r.one;
        small = few.0;
        scaled = few.1;
        own = refl;
        unit = unit;
        room = λ e k is p s fits. r.room e k (is ∙ ap (λ n. n * k) scales) p (subst (λ n. n * k ≤ most) reaches s) fits;
      }

  sum_law : (i : Info) (left right : Typed) → has_size i (joined (size left) (size right)) ≡ true → (is_truth i.kind ≡ true → i.scale ≡ 1) → RoomLaw left → RoomLaw right → RoomLaw (Sum i left right)
  sum_law i left right h unit r s =
      let c = at_both left right r s in
      let scales : i.scale ≡ lcm (scale left) (scale right) = scale_is i (joined (size left) (size right)) h in
      let reaches : i.reach ≡ reach left * c.left + reach right * c.right = reach_is i (joined (size left) (size right)) h ∙ c.total in
      let positive : 1 ≤ reach left * c.left = product_positive (reach left) c.left r.one c.left_above in
      let few = narrow i (joined (size left) (size right)) h in
      record {
        above = rw scales c.above;
        one = omega (arith, reaches, positive);
        small = few.0;
        scaled = few.1;
        own = refl;
        unit = unit;
        room = λ e k is p small fits.
            let same : reach left * (c.left * k) + reach right * (c.right * k) ≡ i.reach * k =
            ap₂ (◌+◌) (sym (mul_assoc (reach left) c.left k)) (sym (mul_assoc (reach right) c.right k)) ∙ sym (add-mul (reach left * c.left) (reach right * c.right) k) ∙ ap (λ n. n * k) (sym reaches) in
            let whole : reach left * (c.left * k) + reach right * (c.right * k) ≤ most = subst (λ n. n ≤ most) (sym same) small in
            both_true (has_room e left) (has_room e right)
            (r.room e (c.left * k) (is ∙ ap (λ n. n * k) (scales ∙ c.left_is) ∙ mul_assoc (scale left) c.left k) (product_positive c.left k c.left_above p) (omega (arith, whole)) fits)
            (s.room e (c.right * k) (is ∙ ap (λ n. n * k) (scales ∙ c.right_is) ∙ mul_assoc (scale right) c.right k) (product_positive c.right k c.right_above p) (omega (arith, whole)) fits);
      }

  times_law : (i : Info) (left right : Typed) → has_size i (multiplied (size left) (size right)) ≡ true → (is_truth i.kind ≡ true → i.scale ≡ 1) → RoomLaw left → RoomLaw right → RoomLaw (Times i left right)
  times_law i left right h unit r s =
      let scales : i.scale ≡ scale left * scale right = scale_is i (multiplied (size left) (size right)) h in
      let reaches : i.reach ≡ reach left * reach right = reach_is i (multiplied (size left) (size right)) h in
      let few = narrow i (multiplied (size left) (size right)) h in
      record {
        above = subst (λ n. 0 < n) (sym scales) (product_positive (scale left) (scale right) r.above s.above);
        one = subst (λ n. 1 ≤ n) (sym reaches) (product_positive (reach left) (reach right) r.one s.one);
        small = few.0;
        scaled = few.1;
        own = refl;
        unit = unit;
        room = λ e k is p small fits. both_true (is_small e) (has_room (own_scale left) left && has_room (own_scale right) right) (small_is e fits)
            (both_true (has_room (own_scale left) left) (has_room (own_scale right) right) (own_room left r) (own_room right s));
      }

  truth_sized : (i : Info) → is_truth_info i ≡ true → has_size i unit_size ≡ true
  truth_sized i h = right_of (is_truth i.kind) (has_size i unit_size) h

  truths_left : (a b : Typed) → are_truths a b ≡ true → is_truth (kind a) ≡ true
  truths_left a b h = right_of (is_scalar a) (is_truth (kind a)) (left_of (is_scalar a && is_truth (kind a)) (is_scalar b && is_truth (kind b)) h)

  truths_right : (a b : Typed) → are_truths a b ≡ true → is_truth (kind b) ≡ true
  truths_right a b h = right_of (is_scalar b) (is_truth (kind b)) (right_of (is_scalar a && is_truth (kind a)) (is_scalar b && is_truth (kind b)) h)

  -- two truth values joined
  logic_law : (t left right : Typed) → own_scale t ≡ 1 → ((e : ℕ) → has_room e t ≡ is_small e && (has_room 1 left && has_room 1 right)) → is_truth_info (info t) ≡ true → are_truths left right ≡ true
      → RoomLaw left → RoomLaw right → RoomLaw t
  logic_law t left right own f sized truths r s = unit_law t own (truth_sized (info t) sized)
      (λ e fits. f e ∙ both_true (is_small e) (has_room 1 left && has_room 1 right) (small_is e fits)
      (both_true (has_room 1 left) (has_room 1 right) (rule_room left (truths_left left right truths) r) (rule_room right (truths_right left right truths) s)))

  mutual
    pub room_law : (t : Typed) → is_sound t ≡ true → has_values t ≡ true → RoomLaw t
    room_law (Constant i number) h v = constant_law i number h (law [] at (Constant i number) h v).above
    room_law (Read i path per) h v = read_law i (Read i path per) per refl refl (λ e. refl) h
    room_law (Whole i path) h v = absurd (true≢false (sym v))
    room_law (Listed i is_field items) h v =
        let sized = left_of (has_size i unit_size) (are_sound items) h in
        unit_law (Listed i is_field items) (scale_is i unit_size sized) sized (λ e fits. refl)
    room_law (Span i low high) h v =
        let rest = right_of (is_scalar low && is_scalar high) (has_size i unit_size && (is_sound low && is_sound high)) h in
        let sized = left_of (has_size i unit_size) (is_sound low && is_sound high) rest in
        unit_law (Span i low high) (scale_is i unit_size sized) sized (λ e fits. refl)
    room_law (Minus i part) h v =
        let rest = right_of (same_units i.kind (kind part)) (has_size i (size part) && is_sound part) h in
        minus_law i part (left_of (has_size i (size part)) (is_sound part) rest) (units_no_truth i.kind (kind part) (left_of (same_units i.kind (kind part)) (has_size i (size part) && is_sound part) h))
        (room_law part (right_of (has_size i (size part)) (is_sound part) rest) v)
    room_law (Not i part) h v =
        let rest = right_of (is_truth_info i) (are_truths part part && is_sound part) h in
        let r = room_law part (right_of (are_truths part part) (is_sound part) rest) v in
        unit_law (Not i part) refl (truth_sized i (left_of (is_truth_info i) (are_truths part part && is_sound part) h))
        (λ e fits. both_true (is_small e) (has_room 1 part) (small_is e fits) (rule_room part (truths_left part part (left_of (are_truths part part) (is_sound part) rest)) r))
    room_law (Sum i left right) h v =
        let units = left_of (same_units i.kind (kind left) && same_units i.kind (kind right)) (has_size i (joined (size left) (size right)) && (is_sound left && is_sound right)) h in
        let rest = right_of (same_units i.kind (kind left) && same_units i.kind (kind right)) (has_size i (joined (size left) (size right)) && (is_sound left && is_sound right)) h in
        let parts = right_of (has_size i (joined (size left) (size right))) (is_sound left && is_sound right) rest in
        sum_law i left right (left_of (has_size i (joined (size left) (size right))) (is_sound left && is_sound right) rest)
        (units_no_truth i.kind (kind left) (left_of (same_units i.kind (kind left)) (same_units i.kind (kind right)) units))
        (room_law left (left_of (is_sound left) (is_sound right) parts) (left_of (has_values left) (has_values right) v))
        (room_law right (right_of (is_sound left) (is_sound right) parts) (right_of (has_values left) (has_values right) v))
    room_law (Times i left right) h v =
        let rest = right_of (is_number (kind left) && is_number (kind right)) (has_size i (multiplied (size left) (size right)) && (is_sound left && is_sound right)) h in
        let parts = right_of (has_size i (multiplied (size left) (size right))) (is_sound left && is_sound right) rest in
        let w = right_of (is_number i.kind) (has_values left && has_values right) v in
        times_law i left right (left_of (has_size i (multiplied (size left) (size right))) (is_sound left && is_sound right) rest) (number_no_truth i.kind (left_of (is_number i.kind) (has_values left && has_values right) v))
        (room_law left (left_of (is_sound left) (is_sound right) parts) (left_of (has_values left) (has_values right) w))
        (room_law right (right_of (is_sound left) (is_sound right) parts) (right_of (has_values left) (has_values right) w))
    room_law (And i left right) h v =
        let rest = right_of (is_truth_info i) (are_truths left right && (is_sound left && is_sound right)) h in
        let parts = right_of (are_truths left right) (is_sound left && is_sound right) rest in
        logic_law (And i left right) left right refl (λ e. refl) (left_of (is_truth_info i) (are_truths left right && (is_sound left && is_sound right)) h) (left_of (are_truths left right) (is_sound left && is_sound right) rest)
        (room_law left (left_of (is_sound left) (is_sound right) parts) (left_of (has_values left) (has_values right) v))
        (room_law right (right_of (is_sound left) (is_sound right) parts) (right_of (has_values left) (has_values right) v))
    room_law (Or i left right) h v =
        let rest = right_of (is_truth_info i) (are_truths left right && (is_sound left && is_sound right)) h in
        let parts = right_of (are_truths left right) (is_sound left && is_sound right) rest in
        logic_law (Or i left right) left right refl (λ e. refl) (left_of (is_truth_info i) (are_truths left right && (is_sound left && is_sound right)) h) (left_of (are_truths left right) (is_sound left && is_sound right) rest)
        (room_law left (left_of (is_sound left) (is_sound right) parts) (left_of (has_values left) (has_values right) v))
        (room_law right (right_of (is_sound left) (is_sound right) parts) (right_of (has_values left) (has_values right) v))
    room_law (Implies i left right) h v =
        let rest = right_of (is_truth_info i) (are_truths left right && (is_sound left && is_sound right)) h in
        let parts = right_of (are_truths left right) (is_sound left && is_sound right) rest in
        logic_law (Implies i left right) left right refl (λ e. refl) (left_of (is_truth_info i) (are_truths left right && (is_sound left && is_sound right)) h) (left_of (are_truths left right) (is_sound left && is_sound right) rest)
        (room_law left (left_of (is_sound left) (is_sound right) parts) (left_of (has_values left) (has_values right) v))
        (room_law right (right_of (is_sound left) (is_sound right) parts) (right_of (has_values left) (has_values right) v))
    room_law (Relation i sign left right) h v =
        let rest = right_of (is_truth_info i) ((fit_for sign left right && can_join left right) && (is_sound left && is_sound right)) h in
        let can = right_of (fit_for sign left right) (can_join left right) (left_of (fit_for sign left right && can_join left right) (is_sound left && is_sound right) rest) in
        let parts = right_of (fit_for sign left right && can_join left right) (is_sound left && is_sound right) rest in
        let r = room_law left (left_of (is_sound left) (is_sound right) parts) (left_of (has_values left) (has_values right) v) in
        let s = room_law right (right_of (is_sound left) (is_sound right) parts) (right_of (has_values left) (has_values right) v) in
        unit_law (Relation i sign left right) refl (truth_sized i (left_of (is_truth_info i) ((fit_for sign left right && can_join left right) && (is_sound left && is_sound right)) h))
        (λ e fits. both_true (is_small e) (can_meet (own_scale left) (λ c. has_room c left) (own_scale right) (λ c. has_room c right)) (small_is e fits) (meet left right r s can))
    room_law (Within i left right) h v =
        let rest = right_of (is_truth_info i) (((is_range_or_list right && fits_in left right) && list_all (can_join left) (parts_of right)) && (is_sound left && is_sound right)) h in
        let can = right_of (is_range_or_list right && fits_in left right) (list_all (can_join left) (parts_of right)) (left_of ((is_range_or_list right && fits_in left right) && list_all (can_join left) (parts_of right)) (is_sound left && is_sound right) rest) in
        let parts = right_of ((is_range_or_list right && fits_in left right) && list_all (can_join left) (parts_of right)) (is_sound left && is_sound right) rest in
        let r = room_law left (left_of (is_sound left) (is_sound right) parts) (left_of (has_values left) (has_values right) v) in
        let holds = hold_law right (right_of (is_sound left) (is_sound right) parts) (right_of (has_values left) (has_values right) v) left r can in
        unit_law (Within i left right) refl
        (truth_sized i (left_of (is_truth_info i) (((is_range_or_list right && fits_in left right) && list_all (can_join left) (parts_of right)) && (is_sound left && is_sound right)) h))
        (λ e fits. both_true (is_small e) (can_hold (own_scale left) (λ c. has_room c left) right) (small_is e fits) holds)

    hold_law : (t : Typed) → is_sound t ≡ true → has_values t ≡ true → (l : Typed) → RoomLaw l → list_all (can_join l) (parts_of t) ≡ true → can_hold (own_scale l) (λ c. has_room c l) t ≡ true
    hold_law (Span i low high) h v l r j =
        let rest = right_of (is_scalar low && is_scalar high) (has_size i unit_size && (is_sound low && is_sound high)) h in
        let parts = right_of (has_size i unit_size) (is_sound low && is_sound high) rest in
        both_true (can_meet (own_scale low) (λ c. has_room c low) (own_scale l) (λ c. has_room c l)) (can_meet (own_scale l) (λ c. has_room c l) (own_scale high) (λ c. has_room c high))
        (meet_swapped l low r (room_law low (left_of (is_sound low) (is_sound high) parts) (left_of (has_values low) (has_values high) v)) (left_of (can_join l low) (can_join l high && true) j))
        (meet l high r (room_law high (right_of (is_sound low) (is_sound high) parts) (right_of (has_values low) (has_values high) v))
        (left_of (can_join l high) true (right_of (can_join l low) (can_join l high && true) j)))
    hold_law (Listed i is_field items) h v l r j = row_law items (right_of (has_size i unit_size) (are_sound items) h) v l r j
    hold_law (Constant i number) h v l r j = refl
    hold_law (Read i path per) h v l r j = refl
    hold_law (Whole i path) h v l r j = refl
    hold_law (Minus i part) h v l r j = refl
    hold_law (Not i part) h v l r j = refl
    hold_law (Sum i left right) h v l r j = refl
    hold_law (Times i left right) h v l r j = refl
    hold_law (And i left right) h v l r j = refl
    hold_law (Or i left right) h v l r j = refl
    hold_law (Implies i left right) h v l r j = refl
    hold_law (Relation i sign left right) h v l r j = refl
    hold_law (Within i left right) h v l r j = refl

    row_law : (row : TypedRow) → are_sound row ≡ true → have_values row ≡ true → (l : Typed) → RoomLaw l → list_all (can_join l) (items_of row) ≡ true → can_equal (own_scale l) (λ c. has_room c l) row ≡ true
    row_law End h v l r j = refl
    row_law (Item item others) h v l r j =
        let rest = right_of (is_scalar item) (is_sound item && are_sound others) h in
        both_true (can_meet (own_scale l) (λ c. has_room c l) (own_scale item) (λ c. has_room c item)) (can_equal (own_scale l) (λ c. has_room c l) others)
        (meet l item r (room_law item (left_of (is_sound item) (are_sound others) rest) (left_of (has_values item) (have_values others) v)) (left_of (can_join l item) (list_all (can_join l) (items_of others)) j))
        (row_law others (right_of (is_sound item) (are_sound others) rest) (right_of (has_values item) (have_values others) v) l r (right_of (can_join l item) (list_all (can_join l) (items_of others)) j))

not_above : (m n : ℕ) → nat_lt m n ≡ false → n ≤ m
not_above m n h = grind arith

-- a sound expression has room within the limit of scales and reaches
pub sound_room : (at : Layout) (t : Typed) → is_sound t ≡ true → has_values t ≡ true → (e k : ℕ) → e ≡ scale t * k → 0 < k → reach t * k ≤ greatest_part → e ≤ greatest_part → has_room e t ≡ true
sound_room at t h v = (room_law greatest_part (omega arith) (λ n few. at_most_true n greatest_part few) (λ n few. not_above greatest_part n few) at t h v).room
