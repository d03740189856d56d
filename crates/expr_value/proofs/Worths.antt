-- The count of a sound expression, over its scale, is its value.
use Rattle.std.proofs.Common.{◌≡◌, ◌∙◌, refl, sym, ap, ap₂, subst, ℕ, ◌<◌, Bool, true, false, ◌&&◌, not, nat_eq, arith}
use Rattle.std.specs.Prelude.{ℤ, pos, ◌≤ℤ◌, ◌*ℤ◌, ◌||◌, int_le, unsigned_abs}
use Rattle.std.specs.List.{list_all}
use Rattle.std.proofs.lemmas.Bool.Decides.{nat_tests}
use Rattle.std.proofs.lemmas.Int.{ints}
use Rattle.expr_nodes.specs.osc_base.declared.path.Path.{Path}
use Rattle.expr_nodes.specs.osc_base.Number.{Number}
use Rattle.expr_nodes.specs.osc_base.LowestTerms.{gcd, lcm}
use Rattle.expr_nodes.proofs.of_osc_base.Integers.{abs_above}
use Rattle.expr_nodes.specs.declared.compare.Compare.{Compare}
use Rattle.expr_nodes.specs.Kinds.{is_number, is_truth, same_units}
use Rattle.expr_nodes.specs.Typed.{Typed, Info, Constant, Read, Whole, Listed, Span, Minus, Not, Sum, Times, And, Or, Implies, Relation, Within, TypedRow, End, Item, kind, scale}
use Rattle.expr_nodes.specs.Value.{worth, is_in, is_item, of_truth}
use Rattle.expr_nodes.specs.Sizes.{Size, size, constant_size, field_size, duration_size, unit_size, joined, multiplied}
use Rattle.expr_nodes.specs.Parts.{is_scalar, parts_of}
use Rattle.expr_nodes.specs.Operators.{fit_for, fits_in, is_range_or_list}
use Rattle.expr_nodes.specs.Sound.{is_sound, are_sound, has_size, is_lowest, is_constant_of, is_per, is_truth_info, are_truths, can_join}
use Rattle.expr_value.specs.Counted.{counted, counts_in, counts_item, truth_count}
use Rattle.expr_value.proofs.SoundParts.{left_of, right_of, third_of, fourth_of, size_is, same_nat, truth_sized}
use Rattle.expr_value.proofs.Scales.{IsWorth, truth_worth, full_one, sum_worth, compares_same, product_worth, opposite_worth}

scale_of : (i : Info) (s : Size) → has_size i s ≡ true → i.scale ≡ s.scale
scale_of i s h = ap (λ (z : Size). z.scale) (size_is i s h)

-- a count at the scale of a node
at : (n : ℤ) (s t : ℕ) (w : Number) → t ≡ s → IsWorth n s w → IsWorth n t w
at n s t w is h = subst (λ z. IsWorth n z w) (sym is) h

whole_worth : (n s : ℕ) → s ≡ 1 → IsWorth (pos n) s (record { numerator = pos n; denominator = pos 1 })
whole_worth n s is = at (pos n) 1 s _ is (record { above = omega (arith, ints); scale_above = omega arith; same = refl })

constant_worth : (i : Info) (n : Number) → is_sound (Constant i n) ≡ true → IsWorth n.numerator i.scale n
constant_worth i n h =
    let lowest = left_of (is_lowest n) (not (is_truth i.kind) || (nat_eq (unsigned_abs n.denominator) 1 && int_le (pos 0) n.numerator && int_le n.numerator (pos 1))) (left_of (is_constant_of i.kind n) (has_size i (constant_size n)) h) in
    let test = left_of (int_le (pos 1) n.denominator) (nat_eq (gcd (unsigned_abs n.numerator) (unsigned_abs n.denominator)) 1) lowest in
    let above : pos 1 ≤ℤ n.denominator = above_of n.denominator test in
    let is = scale_of i (constant_size n) (right_of (is_constant_of i.kind n) (has_size i (constant_size n)) h) in
    at n.numerator (unsigned_abs n.denominator) i.scale n is (record {
      above = above;
      scale_above = omega (arith, ints);
      same = ap (λ z. n.numerator *ℤ z) (sym (abs_above n.denominator above));
    })
  where
    above_of : (d : ℤ) → int_le (pos 1) d ≡ true → pos 1 ≤ℤ d
    above_of d h = grind (arith, ints, h)

read_worth : (held : Path → ℤ) (i : Info) (p : Path) (per : ℕ) → is_sound (Read i p per) ≡ true → IsWorth (held p) i.scale (record { numerator = held p; denominator = pos per })
read_worth held i p per h =
    let above = above_of (is_number i.kind) per (left_of (is_per i.kind per) (has_size i (field_size per) || (nat_eq per 1000 && has_size i duration_size)) h) in
    at (held p) per i.scale _ (by (has_size i (field_size per)) refl (right_of (is_per i.kind per) (has_size i (field_size per) || (nat_eq per 1000 && has_size i duration_size)) h)) (record {
      above = omega (arith, ints);
      scale_above = above;
      same = refl;
    })
  where
    above_of : (b : Bool) (per : ℕ) → (nat_eq per 1 || (b && nat_eq per 1000)) ≡ true → 0 < per
    above_of true per h = grind (arith, nat_tests, h)
    above_of false per h = grind (arith, nat_tests, h)

    by : (b : Bool) → has_size i (field_size per) ≡ b → (b || (nat_eq per 1000 && has_size i duration_size)) ≡ true → i.scale ≡ per
    by true e k = scale_of i (field_size per) e
    by false e k = scale_of i duration_size (right_of (nat_eq per 1000) (has_size i duration_size) k) ∙ sym (same_nat per 1000 (left_of (nat_eq per 1000) (has_size i duration_size) k))

truth_node : (i : Info) (q b c : Bool) → (is_truth_info i && q) ≡ true → b ≡ c → IsWorth (truth_count b) i.scale (of_truth c)
truth_node i q b c h same = subst (λ z. IsWorth (truth_count b) i.scale (of_truth z)) same (at (truth_count b) 1 i.scale _ (ap (λ (z : Size). z.scale) (truth_sized i q h)) (truth_worth b))

module _ (held : Path → ℤ) where
  mutual
    pub counted_worth : (t : Typed) → is_sound t ≡ true → IsWorth (counted held t) (scale t) (worth held t)
    counted_worth (Constant i number) h = constant_worth i number h
    counted_worth (Read i path per) h = read_worth held i path per h
    counted_worth (Whole i path) h = whole_worth 0 i.scale (scale_of i unit_size h)
    counted_worth (Listed i is_field items) h = whole_worth 0 i.scale (scale_of i unit_size (left_of (has_size i unit_size) (are_sound items) h))
    counted_worth (Span i low high) h = whole_worth 0 i.scale (scale_of i unit_size (left_of (has_size i unit_size) (is_sound low && is_sound high) (right_of (is_scalar low && is_scalar high) (has_size i unit_size && (is_sound low && is_sound high)) h)))
    counted_worth (Minus i part) h =
        let k = right_of (same_units i.kind (kind part)) (has_size i (size part) && is_sound part) h in
        at _ (scale part) i.scale _ (scale_of i (size part) (left_of (has_size i (size part)) (is_sound part) k)) (opposite_worth (counted held part) (scale part) (worth held part) (counted_worth part (right_of (has_size i (size part)) (is_sound part) k)))
    counted_worth (Not i part) h =
        truth_node i (are_truths part part && is_sound part) _ _ h (ap not (full_one (counted held part) (scale part) (worth held part) (counted_worth part (right_of (are_truths part part) (is_sound part) (right_of (is_truth_info i) (are_truths part part && is_sound part) h)))))
    counted_worth (Sum i a b) h =
        let k = right_of (same_units i.kind (kind a) && same_units i.kind (kind b)) (has_size i (joined (size a) (size b)) && (is_sound a && is_sound b)) h in
        at _ (lcm (scale a) (scale b)) i.scale _ (scale_of i (joined (size a) (size b)) (left_of (has_size i (joined (size a) (size b))) (is_sound a && is_sound b) k))
        (sum_worth (counted held a) (scale a) (worth held a) (counted held b) (scale b) (worth held b)
        (counted_worth a (third_of (same_units i.kind (kind a) && same_units i.kind (kind b)) (has_size i (joined (size a) (size b))) (is_sound a) (is_sound b) h))
        (counted_worth b (fourth_of (same_units i.kind (kind a) && same_units i.kind (kind b)) (has_size i (joined (size a) (size b))) (is_sound a) (is_sound b) h)))
    counted_worth (Times i a b) h =
        let k = right_of (is_number (kind a) && is_number (kind b)) (has_size i (multiplied (size a) (size b)) && (is_sound a && is_sound b)) h in
        at _ (multiplied (size a) (size b)).scale i.scale _ (scale_of i (multiplied (size a) (size b)) (left_of (has_size i (multiplied (size a) (size b))) (is_sound a && is_sound b) k))
        (product_worth (counted held a) (scale a) (worth held a) (counted held b) (scale b) (worth held b)
        (counted_worth a (third_of (is_number (kind a) && is_number (kind b)) (has_size i (multiplied (size a) (size b))) (is_sound a) (is_sound b) h))
        (counted_worth b (fourth_of (is_number (kind a) && is_number (kind b)) (has_size i (multiplied (size a) (size b))) (is_sound a) (is_sound b) h)))
    counted_worth (And i a b) h =
        truth_node i (are_truths a b && (is_sound a && is_sound b)) _ _ h (ap₂ (λ x y. x && y)
        (full_one (counted held a) (scale a) (worth held a) (counted_worth a (third_of (is_truth_info i) (are_truths a b) (is_sound a) (is_sound b) h)))
        (full_one (counted held b) (scale b) (worth held b) (counted_worth b (fourth_of (is_truth_info i) (are_truths a b) (is_sound a) (is_sound b) h))))
    counted_worth (Or i a b) h =
        truth_node i (are_truths a b && (is_sound a && is_sound b)) _ _ h (ap₂ (λ x y. x || y)
        (full_one (counted held a) (scale a) (worth held a) (counted_worth a (third_of (is_truth_info i) (are_truths a b) (is_sound a) (is_sound b) h)))
        (full_one (counted held b) (scale b) (worth held b) (counted_worth b (fourth_of (is_truth_info i) (are_truths a b) (is_sound a) (is_sound b) h))))
    counted_worth (Implies i a b) h =
        truth_node i (are_truths a b && (is_sound a && is_sound b)) _ _ h (ap₂ (λ x y. not x || y)
        (full_one (counted held a) (scale a) (worth held a) (counted_worth a (third_of (is_truth_info i) (are_truths a b) (is_sound a) (is_sound b) h)))
        (full_one (counted held b) (scale b) (worth held b) (counted_worth b (fourth_of (is_truth_info i) (are_truths a b) (is_sound a) (is_sound b) h))))
    counted_worth (Relation i sign a b) h =
        truth_node i ((fit_for sign a b && can_join a b) && (is_sound a && is_sound b)) _ _ h
        (compares_same (counted held a) (scale a) (worth held a) (counted held b) (scale b) (worth held b)
        (counted_worth a (third_of (is_truth_info i) (fit_for sign a b && can_join a b) (is_sound a) (is_sound b) h))
        (counted_worth b (fourth_of (is_truth_info i) (fit_for sign a b && can_join a b) (is_sound a) (is_sound b) h)) sign)
    counted_worth (Within i a b) h =
        truth_node i ((is_range_or_list b && fits_in a b && list_all (can_join a) (parts_of b)) && (is_sound a && is_sound b)) _ _ h
        (counted_in (counted held a) (scale a) (worth held a) b
        (counted_worth a (third_of (is_truth_info i) (is_range_or_list b && fits_in a b && list_all (can_join a) (parts_of b)) (is_sound a) (is_sound b) h))
        (fourth_of (is_truth_info i) (is_range_or_list b && fits_in a b && list_all (can_join a) (parts_of b)) (is_sound a) (is_sound b) h))

    counted_in : (n : ℤ) (s : ℕ) (w : Number) (t : Typed) → IsWorth n s w → is_sound t ≡ true → counts_in held s n t ≡ is_in held w t
    counted_in n s w (Constant i number) is h = refl
    counted_in n s w (Read i path per) is h = refl
    counted_in n s w (Whole i path) is h = refl
    counted_in n s w (Listed i is_field items) is h = counted_item n s w items is (right_of (has_size i unit_size) (are_sound items) h)
    counted_in n s w (Span i low high) is h = ap₂ (λ x y. x && y)
        (compares_same n s w (counted held low) (scale low) (worth held low) is (counted_worth low (third_of (is_scalar low && is_scalar high) (has_size i unit_size) (is_sound low) (is_sound high) h)) Compare.AtLeast)
        (compares_same n s w (counted held high) (scale high) (worth held high) is (counted_worth high (fourth_of (is_scalar low && is_scalar high) (has_size i unit_size) (is_sound low) (is_sound high) h)) Compare.AtMost)
    counted_in n s w (Minus i part) is h = refl
    counted_in n s w (Not i part) is h = refl
    counted_in n s w (Sum i left right) is h = refl
    counted_in n s w (Times i left right) is h = refl
    counted_in n s w (And i left right) is h = refl
    counted_in n s w (Or i left right) is h = refl
    counted_in n s w (Implies i left right) is h = refl
    counted_in n s w (Relation i sign left right) is h = refl
    counted_in n s w (Within i left right) is h = refl

    counted_item : (n : ℤ) (s : ℕ) (w : Number) (items : TypedRow) → IsWorth n s w → are_sound items ≡ true → counts_item held s n items ≡ is_item held w items
    counted_item n s w End is h = refl
    counted_item n s w (Item item others) is h =
        let k = right_of (is_scalar item) (is_sound item && are_sound others) h in
        ap₂ (λ x y. x || y)
        (compares_same n s w (counted held item) (scale item) (worth held item) is (counted_worth item (left_of (is_sound item) (are_sound others) k)) Compare.Equal)
        (counted_item n s w others is (right_of (is_sound item) (are_sound others) k))

-- the value of a sound expression has a denominator above 0, whatever its paths hold
pub worth_above : (held : Path → ℤ) (t : Typed) → is_sound t ≡ true → pos 1 ≤ℤ (worth held t).denominator
worth_above held t sound = (counted_worth held t sound).above
