-- Each expression without a fault is sound.
use Rattle.std.proofs.Common.{◌≡◌, refl, sym, ◌∙◌, subst, List, [], ◌∷◌, Bool, true, false, ◌&&◌, ◌||◌, not, Some, arith, true≢false}
use Rattle.std.specs.Prelude.{ℤ, nat_eq}
use Rattle.std.specs.List.{list_all, list_any}
use Rattle.std.proofs.lemmas.Int.{ints}
use Rattle.field_flatten.specs.osc_base.declared.fault.Place.{Place}
use Rattle.field_flatten.specs.osc_base.Comparisons.{same_number}
use Rattle.expansion_laws.specs.dsl_tree.declared.expr.Operator.{Operator}
use Rattle.expansion_laws.specs.units_si.declared.units.Exponents.{Exponents}
use Rattle.expansion_laws.specs.units_si.ExponentTests.{same_exponents}
use Rattle.expansion_laws.specs.expr_nodes.declared.compare.Compare.{Compare}
use Rattle.expansion_laws.specs.expr_nodes.Kinds.{ValueKind, is_number, is_truth, same_units}
use Rattle.expansion_laws.specs.expr_nodes.Typed.{Typed, Info, Constant, Read, Whole, Listed, Span, Minus, Not, Sum, Times, And, Or, Implies, Relation, Within, info, kind, place_of}
use Rattle.expansion_laws.specs.expr_nodes.Sizes.{Size, size, info_at, constant_size, field_size, duration_size, unit_size, joined, multiplied, is_wide}
use Rattle.expansion_laws.specs.expr_nodes.Parts.{any_holds, is_scalar, parts_of, both_numbers}
use Rattle.expansion_laws.specs.expr_nodes.Operators.{truth_at, not_rows, logic_rows, minus_rows, sum_rows, sum_of, product_rows, product_of, fit_for, comparison_rows, fits_in, is_range_or_list, within_rows, span_rows}
use Rattle.expansion_laws.specs.expr_nodes.Sound.{same_size, has_size, is_constant_of, is_per, are_truths, is_truth_info, can_join, is_sound, are_sound}
use Rattle.field_flatten.specs.Seen.{has_values, have_values}
use Rattle.field_flatten.proofs.Tests.{left_of, right_of, both, two_ways, number_self}
use Rattle.field_flatten.proofs.ShapeLaw.{scale_is}
use Rattle.field_flatten.proofs.ShapeReach.{reach_is}
use Rattle.scene_laws.proofs.FaultRows.{no_left, no_right, holds_not, not_so, not_from}

-- ---- what may stand in an expression

-- a whole object or phase, or a part of an expression of values
abbrev pub may_stand : Typed → Bool
may_stand (Whole i path) = true
may_stand (Constant i number) = true
may_stand (Read i path per) = true
may_stand (Listed i is_field items) = have_values items
may_stand (Span i low high) = has_values low && has_values high
may_stand (Minus i part) = has_values part
may_stand (Not i part) = has_values part
may_stand (Sum i left right) = has_values left && has_values right
may_stand (Times i left right) = is_number i.kind && (has_values left && has_values right)
may_stand (And i left right) = has_values left && has_values right
may_stand (Or i left right) = has_values left && has_values right
may_stand (Implies i left right) = has_values left && has_values right
may_stand (Relation i sign left right) = has_values left && has_values right
may_stand (Within i left right) = has_values left && has_values right

-- sound, and of values but for itself
pub record IsGood (t : Typed) : Type 0 where
  pub sound : is_sound t ≡ true
  pub stands : may_stand t ≡ true

pub scalar_values : (t : Typed) → is_scalar t ≡ true → may_stand t ≡ true → has_values t ≡ true
scalar_values (Whole i path) s h = absurd (true≢false (sym s))
scalar_values (Constant i number) s h = h
scalar_values (Read i path per) s h = h
scalar_values (Listed i is_field items) s h = h
scalar_values (Span i low high) s h = h
scalar_values (Minus i part) s h = h
scalar_values (Not i part) s h = h
scalar_values (Sum i left right) s h = h
scalar_values (Times i left right) s h = h
scalar_values (And i left right) s h = h
scalar_values (Or i left right) s h = h
scalar_values (Implies i left right) s h = h
scalar_values (Relation i sign left right) s h = h
scalar_values (Within i left right) s h = h

row_values : (t : Typed) → is_range_or_list t ≡ true → may_stand t ≡ true → has_values t ≡ true
row_values (Whole i path) s h = absurd (true≢false (sym s))
row_values (Constant i number) s h = h
row_values (Read i path per) s h = h
row_values (Listed i is_field items) s h = h
row_values (Span i low high) s h = h
row_values (Minus i part) s h = h
row_values (Not i part) s h = h
row_values (Sum i left right) s h = h
row_values (Times i left right) s h = h
row_values (And i left right) s h = h
row_values (Or i left right) s h = h
row_values (Implies i left right) s h = h
row_values (Relation i sign left right) s h = h
row_values (Within i left right) s h = h

-- ---- sizes

same_size_self : (s : Size) → same_size s s ≡ true
same_size_self s = both (nat_eq s.scale s.scale) (nat_eq s.reach s.reach) (number_self s.scale) (number_self s.reach)

pub sized : (p : Place) (k : ValueKind) (s : Size) → is_wide s ≡ false → has_size (info_at p k s) s ≡ true
sized p k s h = both (same_size s s) (not (is_wide s)) (same_size_self s) (not_so (is_wide s) h)

narrow_info : (i : Info) (s : Size) → has_size i s ≡ true → is_wide (record { scale = i.scale; reach = i.reach }) ≡ false
narrow_info i s h =
    let here : Size = record { scale = i.scale; reach = i.reach } in
    let narrow = not_from (is_wide s) (right_of (same_size here s) (not (is_wide s)) h) in
    rw (scale_is i s h, reach_is i s h) narrow

-- an expression that is sound isn't wide
pub narrow_of : (t : Typed) → is_sound t ≡ true → is_wide (size t) ≡ false
narrow_of (Constant i number) h = narrow_info i (constant_size number) (right_of (is_constant_of i.kind number) (has_size i (constant_size number)) h)
narrow_of (Read i path per) h = by (right_of (is_per i.kind per) (has_size i (field_size per) || (nat_eq per 1000 && has_size i duration_size)) h)
  where
    by : has_size i (field_size per) || (nat_eq per 1000 && has_size i duration_size) ≡ true → is_wide (record { scale = i.scale; reach = i.reach }) ≡ false
    by e = two_ways (has_size i (field_size per)) (narrow_info i (field_size per))
        (λ n. let rest : nat_eq per 1000 && has_size i duration_size ≡ true = rw n at e in narrow_info i duration_size (right_of (nat_eq per 1000) (has_size i duration_size) rest))
narrow_of (Whole i path) h = narrow_info i unit_size h
narrow_of (Listed i is_field items) h = narrow_info i unit_size (left_of (has_size i unit_size) (are_sound items) h)
narrow_of (Span i low high) h = narrow_info i unit_size (left_of (has_size i unit_size) (is_sound low && is_sound high) (right_of (is_scalar low && is_scalar high) _ h))
narrow_of (Minus i part) h = narrow_info i (size part) (left_of (has_size i (size part)) (is_sound part) (right_of (same_units i.kind (kind part)) _ h))
narrow_of (Not i part) h = narrow_info i unit_size (right_of (is_truth i.kind) (has_size i unit_size) (left_of (is_truth_info i) _ h))
narrow_of (Sum i left right) h =
    narrow_info i (joined (size left) (size right))
    (left_of (has_size i (joined (size left) (size right))) (is_sound left && is_sound right) (right_of (same_units i.kind (kind left) && same_units i.kind (kind right)) _ h))
narrow_of (Times i left right) h =
    narrow_info i (multiplied (size left) (size right))
    (left_of (has_size i (multiplied (size left) (size right))) (is_sound left && is_sound right) (right_of (is_number (kind left) && is_number (kind right)) _ h))
narrow_of (And i left right) h = narrow_info i unit_size (right_of (is_truth i.kind) (has_size i unit_size) (left_of (is_truth_info i) _ h))
narrow_of (Or i left right) h = narrow_info i unit_size (right_of (is_truth i.kind) (has_size i unit_size) (left_of (is_truth_info i) _ h))
narrow_of (Implies i left right) h = narrow_info i unit_size (right_of (is_truth i.kind) (has_size i unit_size) (left_of (is_truth_info i) _ h))
narrow_of (Relation i sign left right) h = narrow_info i unit_size (right_of (is_truth i.kind) (has_size i unit_size) (left_of (is_truth_info i) _ h))
narrow_of (Within i left right) h = narrow_info i unit_size (right_of (is_truth i.kind) (has_size i unit_size) (left_of (is_truth_info i) _ h))

-- ---- kinds

number_same : (a : ℤ) → same_number a a ≡ true
number_same a = grind (arith, ints)

exponents_same : (x : Exponents) → same_exponents x x ≡ true
exponents_same x = rw (number_same x.kg, number_same x.m, number_same x.s, number_same x.a, number_same x.k, number_same x.mol, number_same x.cd, number_same x.rad) refl

pub units_same : (k : ValueKind) → is_number k ≡ true → same_units k k ≡ true
units_same (ValueKind.Number x) h = exponents_same x
units_same ValueKind.Truth h = absurd (true≢false (sym h))
units_same (ValueKind.Member of) h = absurd (true≢false (sym h))
units_same ValueKind.Chars h = absurd (true≢false (sym h))
units_same (ValueKind.Object of) h = absurd (true≢false (sym h))
units_same (ValueKind.Phase made) h = absurd (true≢false (sym h))

-- ---- nodes without a fault

pub truth_info : (p : Place) → is_truth_info (truth_at p) ≡ true
truth_info p = refl

-- `not`, `and`, `or` and `=>`
pub truths : (p : Place) (x y : Typed) → any_holds (logic_rows p (Some x) (Some y)) ≡ false → are_truths x y ≡ true
truths p x y n =
    let row = no_left (not (is_scalar x) || (not (is_scalar y) || not (is_truth (kind x) && is_truth (kind y)))) false n in
    let rest = no_right (not (is_scalar x)) _ row in
    let kinds = holds_not (is_truth (kind x) && is_truth (kind y)) (no_right (not (is_scalar y)) _ rest) in
    both (is_scalar x && is_truth (kind x)) (is_scalar y && is_truth (kind y))
    (both (is_scalar x) (is_truth (kind x)) (holds_not (is_scalar x) (no_left (not (is_scalar x)) _ row)) (left_of (is_truth (kind x)) (is_truth (kind y)) kinds))
    (both (is_scalar y) (is_truth (kind y)) (holds_not (is_scalar y) (no_left (not (is_scalar y)) _ rest)) (right_of (is_truth (kind x)) (is_truth (kind y)) kinds))

pub values_two : (x y : Typed) → is_scalar x ≡ true → is_scalar y ≡ true → IsGood x → IsGood y → has_values x && has_values y ≡ true
values_two x y p q g h = both (has_values x) (has_values y) (scalar_values x p g.stands) (scalar_values y q h.stands)

pub sound_two : (x y : Typed) → IsGood x → IsGood y → is_sound x && is_sound y ≡ true
sound_two x y g h = both (is_sound x) (is_sound y) g.sound h.sound

scalar_left : (x y : Typed) → are_truths x y ≡ true → is_scalar x ≡ true
scalar_left x y h = left_of (is_scalar x) (is_truth (kind x)) (left_of _ (is_scalar y && is_truth (kind y)) h)

scalar_right : (x y : Typed) → are_truths x y ≡ true → is_scalar y ≡ true
scalar_right x y h = left_of (is_scalar y) (is_truth (kind y)) (right_of (is_scalar x && is_truth (kind x)) _ h)

pub and_good : (p : Place) (x y : Typed) → IsGood x → IsGood y → any_holds (logic_rows p (Some x) (Some y)) ≡ false → IsGood (And (truth_at (place_of x)) x y)
and_good p x y g h n = let t = truths p x y n in record {
  sound = both (are_truths x y) (is_sound x && is_sound y) t (sound_two x y g h);
  stands = values_two x y (scalar_left x y t) (scalar_right x y t) g h;
}

pub or_good : (p : Place) (x y : Typed) → IsGood x → IsGood y → any_holds (logic_rows p (Some x) (Some y)) ≡ false → IsGood (Or (truth_at (place_of x)) x y)
or_good p x y g h n = let t = truths p x y n in record {
  sound = both (are_truths x y) (is_sound x && is_sound y) t (sound_two x y g h);
  stands = values_two x y (scalar_left x y t) (scalar_right x y t) g h;
}

pub implies_good : (p : Place) (x y : Typed) → IsGood x → IsGood y → any_holds (logic_rows p (Some x) (Some y)) ≡ false → IsGood (Implies (truth_at (place_of x)) x y)
implies_good p x y g h n = let t = truths p x y n in record {
  sound = both (are_truths x y) (is_sound x && is_sound y) t (sound_two x y g h);
  stands = values_two x y (scalar_left x y t) (scalar_right x y t) g h;
}

pub not_good : (p : Place) (x : Typed) → IsGood x → any_holds (not_rows p (Some x)) ≡ false → IsGood (Not (truth_at p) x)
not_good p x g n =
    let row = no_left (not (is_scalar x) || not (is_truth (kind x))) false n in
    let scalar = holds_not (is_scalar x) (no_left (not (is_scalar x)) _ row) in
    let one = both (is_scalar x) (is_truth (kind x)) scalar (holds_not (is_truth (kind x)) (no_right (not (is_scalar x)) _ row)) in
    record {
      sound = both (are_truths x x) (is_sound x) (both (is_scalar x && is_truth (kind x)) (is_scalar x && is_truth (kind x)) one one) g.sound;
      stands = scalar_values x scalar g.stands;
    }

pub minus_good : (p : Place) (x : Typed) → IsGood x → any_holds (minus_rows p (Some x)) ≡ false → IsGood (Minus (record (info x) { place = p }) x)
minus_good p x g n =
    let row = no_left (not (is_scalar x) || not (is_number (kind x))) false n in
    let scalar = holds_not (is_scalar x) (no_left (not (is_scalar x)) _ row) in
    let number = holds_not (is_number (kind x)) (no_right (not (is_scalar x)) _ row) in
    record {
      sound = both (same_units (kind x) (kind x)) (has_size (record (info x) { place = p }) (size x) && is_sound x) (units_same (kind x) number)
          (both (has_size (record (info x) { place = p }) (size x)) (is_sound x) (sized p (kind x) (size x) (narrow_of x g.sound)) g.sound);
      stands = scalar_values x scalar g.stands;
    }

-- both are values and numbers
pub record TwoNumbers (x y : Typed) : Type 0 where
  pub one : is_scalar x ≡ true
  pub other : is_scalar y ≡ true
  pub number : is_number (kind x) ≡ true
  pub number_too : is_number (kind y) ≡ true

pub two_numbers : (x y : Typed) (b : Bool) → not (is_scalar x) || (not (is_scalar y) || not (both_numbers x y)) ≡ b → b ≡ false → TwoNumbers x y
two_numbers x y b is e =
    let row : not (is_scalar x) || (not (is_scalar y) || not (both_numbers x y)) ≡ false = is ∙ e in
    let rest = no_right (not (is_scalar x)) _ row in
    let numbers = holds_not (both_numbers x y) (no_right (not (is_scalar y)) _ rest) in
    record {
      one = holds_not (is_scalar x) (no_left (not (is_scalar x)) _ row);
      other = holds_not (is_scalar y) (no_left (not (is_scalar y)) _ rest);
      number = left_of (is_number (kind x)) (is_number (kind y)) numbers;
      number_too = right_of (is_number (kind x)) (is_number (kind y)) numbers;
    }

abbrev pub clash : Typed → Typed → Bool
clash x y = not (is_scalar x) || (not (is_scalar y) || not (both_numbers x y))

implied : (a b : Bool) → a ≡ true → a && not b ≡ false → b ≡ true
implied true b p h = holds_not b h
implied false b p h = absurd (true≢false (sym p))

pub sum_good : (p : Place) (op : Operator) (x y : Typed) → IsGood x → IsGood y → any_holds (sum_rows p (Some x) (Some y)) ≡ false → IsGood (sum_of op x y)
sum_good p op x y g h n = by op
  where
    rest : (both_numbers x y && not (same_units (kind x) (kind y))) || (is_wide (joined (size x) (size y)) || false) ≡ false
    rest = no_right (clash x y) _ n

    t : TwoNumbers x y
    t = two_numbers x y false (no_left (clash x y) _ n) refl

    same : same_units (kind x) (kind y) ≡ true
    same = implied (both_numbers x y) (same_units (kind x) (kind y)) (both (is_number (kind x)) (is_number (kind y)) t.number t.number_too) (no_left (both_numbers x y && not (same_units (kind x) (kind y))) _ rest)

    narrow : is_wide (joined (size x) (size y)) ≡ false
    narrow = no_left (is_wide (joined (size x) (size y))) false (no_right (both_numbers x y && not (same_units (kind x) (kind y))) _ rest)

    made : (z : Typed) → kind z ≡ kind y → size z ≡ size y → is_sound z ≡ true → has_values z ≡ true → IsGood (Sum (info_at (place_of x) (kind x) (joined (size x) (size y))) x z)
    made z k s sound v = record {
      sound = both (same_units (kind x) (kind x) && same_units (kind x) (kind z)) (has_size (info_at (place_of x) (kind x) (joined (size x) (size y))) (joined (size x) (size z)) && (is_sound x && is_sound z))
          (both (same_units (kind x) (kind x)) (same_units (kind x) (kind z)) (units_same (kind x) t.number) (subst (λ w. same_units (kind x) w ≡ true) (sym k) same))
          (both (has_size (info_at (place_of x) (kind x) (joined (size x) (size y))) (joined (size x) (size z))) (is_sound x && is_sound z) (subst (λ w. has_size (info_at (place_of x) (kind x) (joined (size x) (size y))) (joined (size x) w) ≡ true) (sym s) (sized (place_of x) (kind x) (joined (size x) (size y)) narrow))
          (both (is_sound x) (is_sound z) g.sound sound));
      stands = both (has_values x) (has_values z) (scalar_values x t.one g.stands) v;
    }

    plain : IsGood (Sum (info_at (place_of x) (kind x) (joined (size x) (size y))) x y)
    plain = made y refl refl h.sound (scalar_values y t.other h.stands)

    by : (o : Operator) → IsGood (sum_of o x y)
    by Operator.Dash = made (Minus (info y) y) refl refl
        (both (same_units (kind y) (kind y)) (has_size (info y) (size y) && is_sound y) (units_same (kind y) t.number_too)
        (both (has_size (info y) (size y)) (is_sound y) (both (same_size (size y) (size y)) (not (is_wide (size y))) (same_size_self (size y)) (not_so (is_wide (size y)) (narrow_of y h.sound))) h.sound))
        (scalar_values y t.other h.stands)
    by Operator.Plus = plain
    by Operator.Or = plain
    by Operator.And = plain
    by Operator.Star = plain
    by Operator.Slash = plain

pub product_made : (x y : Typed) → TwoNumbers x y → is_wide (multiplied (size x) (size y)) ≡ false → IsGood x → IsGood y → IsGood (product_of x y)
product_made x y t narrow g h = record {
  sound = both (is_number (kind x) && is_number (kind y)) (has_size (info (product_of x y)) (multiplied (size x) (size y)) && (is_sound x && is_sound y))
      (both (is_number (kind x)) (is_number (kind y)) t.number t.number_too)
      (both (has_size (info (product_of x y)) (multiplied (size x) (size y))) (is_sound x && is_sound y) (sized (place_of x) (kind (product_of x y)) (multiplied (size x) (size y)) narrow) (sound_two x y g h));
  stands = values_two x y t.one t.other g h;
}

pub product_good : (p : Place) (x y : Typed) → IsGood x → IsGood y → any_holds (product_rows p (Some x) (Some y)) ≡ false → IsGood (product_of x y)
product_good p x y g h n =
    product_made x y (two_numbers x y false (no_left (clash x y) _ n) refl) (no_left (is_wide (multiplied (size x) (size y))) false (no_right _ _ (no_right (clash x y) _ n))) g h

-- ---- relations

fit_scalar : (x y : Typed) (fit : Bool) → not (is_scalar x) || (not (is_scalar y) || not fit) ≡ false → (is_scalar x ≡ true) × (is_scalar y ≡ true) × (fit ≡ true)
fit_scalar x y fit row =
    let rest = no_right (not (is_scalar x)) _ row in
    (holds_not (is_scalar x) (no_left (not (is_scalar x)) _ row), holds_not (is_scalar y) (no_left (not (is_scalar y)) _ rest), holds_not fit (no_right (not (is_scalar y)) _ rest))

pub comparison_good : (p : Place) (sign : Compare) (x y : Typed) → IsGood x → IsGood y → any_holds (comparison_rows p sign (Some x) (Some y)) ≡ false → IsGood (Relation (truth_at (place_of x)) sign x y)
comparison_good p sign x y g h n =
    let f = fit_scalar x y (fit_for sign x y) (no_left _ _ n) in
    let narrow = no_left (is_wide (joined (size x) (size y))) false (no_right _ _ (no_right _ _ n)) in
    record {
      sound = both (fit_for sign x y && can_join x y) (is_sound x && is_sound y) (both (fit_for sign x y) (can_join x y) f.2 (not_so (is_wide (joined (size x) (size y))) narrow)) (sound_two x y g h);
      stands = values_two x y f.0 f.1 g h;
    }

all_not : {A : Type 0} (test : A → Bool) (xs : List A) → list_any test xs ≡ false → list_all (λ x. not (test x)) xs ≡ true
all_not test [] h = refl
all_not test (x ∷ xs) h = both (not (test x)) (list_all (λ x. not (test x)) xs) (not_so (test x) (no_left (test x) _ h)) (all_not test xs (no_right (test x) _ h))

pub within_good : (p : Place) (x y : Typed) → IsGood x → IsGood y → any_holds (within_rows p (Some x) (Some y)) ≡ false → IsGood (Within (truth_at (place_of x)) x y)
within_good p x y g h n =
    let row : not (is_scalar x) || (not (is_range_or_list y) || not (fits_in x y)) ≡ false = no_left _ _ n in
    let rest = no_right (not (is_scalar x)) _ row in
    let ranged = holds_not (is_range_or_list y) (no_left (not (is_range_or_list y)) _ rest) in
    let fits = holds_not (fits_in x y) (no_right (not (is_range_or_list y)) _ rest) in
    let narrow = no_left (list_any (λ z. is_wide (joined (size x) (size z))) (parts_of y)) false (no_right _ _ (no_right _ _ n)) in
    let joins : list_all (can_join x) (parts_of y) ≡ true = all_not (λ z. is_wide (joined (size x) (size z))) (parts_of y) narrow in
    record {
      sound = both (is_range_or_list y && fits_in x y && list_all (can_join x) (parts_of y)) (is_sound x && is_sound y)
          (both (is_range_or_list y && fits_in x y) (list_all (can_join x) (parts_of y)) (both (is_range_or_list y) (fits_in x y) ranged fits) joins) (sound_two x y g h);
      stands = both (has_values x) (has_values y) (scalar_values x (holds_not (is_scalar x) (no_left (not (is_scalar x)) _ row)) g.stands) (row_values y ranged h.stands);
    }

-- ---- ranges

pub span_good : (p : Place) (x y : Typed) → IsGood x → IsGood y → any_holds (span_rows (Some x) (Some y)) ≡ false → IsGood (Span (info_at p (kind x) unit_size) x y)
span_good p x y g h n =
    let one = holds_not (is_scalar x) (no_left (not (is_scalar x)) _ n) in
    let other = holds_not (is_scalar y) (no_left (not (is_scalar y)) false (no_right (not (is_scalar x)) _ n)) in
    record {
      sound = both (is_scalar x && is_scalar y) (is_sound x && is_sound y) (both (is_scalar x) (is_scalar y) one other) (sound_two x y g h);
      stands = values_two x y one other g h;
    }
