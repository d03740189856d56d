-- What `line_at` reads of a text is what has that spelling.
use Rattle.std.proofs.Common.{◌≡◌, refl, sym, ap, ap₂, subst, ◌∙◌, ℕ, zero, suc, ◌+◌, ◌^◌, ◌<◌, ◌≤◌, Bool, true, false, not, ◌&&◌, ◌||◌, if◌then◌else◌, List, [], ◌∷◌, ◌++◌, length, get_or, take, drop, Option, Some, None, ℤ, pos, negsuc, ◌-ℤ◌, arith}
use Rattle.std.specs.Prelude.{codes, decimal, nat_eq, nat_lt, ◌==◌, unsigned_abs}
use Rattle.std.specs.Fmt.{signed_decimal}
use Rattle.std.specs.List.{list_all, starts_with, prefix_len}
use Rattle.std.specs.Option.{option_map, option_and_then}
use Rattle.std.specs.Str.Parse.{digits_value}
use Rattle.std.proofs.lemmas.Bool.{false≢true, ltb-true, lt-ltb}
use Rattle.std.proofs.lemmas.List.{at_drop_more, take-append-drop, length-append}
use Rattle.std.proofs.lemmas.List.Sums.{prefix_len_stops}
use Rattle.std.proofs.Math.Seq.{take-append_seam, drop-append-add}
use Rattle.std.proofs.lemmas.Int.{ints}
use Rattle.std.proofs.lemmas.Fmt.{digits_decimal, digits_value-decimal, decimal-digits_value, decimal_nonempty, decimal_digit, length-decimal-le, first_decimal}
use Rattle.std.proofs.lemmas.Str.Parse.{digits_value_short}
use Rattle.box_eval.specs.declared.cut.Side.{Side}
use Rattle.record_text.specs.TextLines.{TextLine}
use Rattle.record_text.specs.TextLines.{Cut}
use Rattle.record_text.specs.Scan.{is_no_space, cut_of, divided_at, cut_at, is_digit, is_short, has_no_leading_zero, is_numeral, natural_at, below_zero, integer_at}
use Rattle.record_text.specs.Lines.{IsFewDigits, slot_and_value}
use Rattle.record_text.proofs.Numerals.{own}

-- the branch of a test that gave z
pub chosen : {A P : Type 0} (b : Bool) (x y z : A) → (if b then x else y) ≡ z → (b ≡ true → x ≡ z → P) → (b ≡ false → y ≡ z → P) → P
chosen true x y z e yes_ no_ = yes_ refl e
chosen false x y z e yes_ no_ = no_ refl e

-- ---- numbers

zero_first : (text : List ℕ) → get_or text 0 0 ≡ 48 → starts_with nat_eq text (codes "0") ≡ true
zero_first [] e = absurd (let never : ⊥ = omega (arith, e) in never)
zero_first (c ∷ text) e = grind (arith)

no_zero_first : (text : List ℕ) → 48 < get_or text 0 0 → starts_with nat_eq text (codes "0") ≡ false
no_zero_first [] h = refl
no_zero_first (c ∷ text) h = grind (arith)

numeral_takes : (text : List ℕ) → is_numeral text ≡ true → IsFewDigits (digits_value 10 text) × (text ≡ decimal (digits_value 10 text))
numeral_takes text h =
    let all : list_all is_digit text ≡ true = grind (arith) in
    let long : 0 < length text = grind (arith) in
    let few : length text ≤ 18 = grind (arith) in
    let zero : get_or text 0 0 ≡ 48 → length text ≡ 1 = λ e. let z : starts_with nat_eq text (codes "0") ≡ true = zero_first text e in grind (arith) in
    let small : digits_value 10 text < 10 ^ 18 = digits_value_short own text 18 all few in
    (small, sym (decimal-digits_value own text all long zero (omega (arith, small))))

pub natural_takes : (text : List ℕ) (n : ℕ) → natural_at text ≡ Some n → IsFewDigits n × (text ≡ decimal n)
natural_takes text n e = chosen (is_numeral text) (Some (digits_value 10 text)) None (Some n) e
    (λ is value. let same : digits_value 10 text ≡ n = cc in subst (λ (m : ℕ). IsFewDigits m × (text ≡ decimal m)) same (numeral_takes text is))
    (λ is never. let no_ : ⊥ = cc in absurd no_)

is_decimal_numeral : (n : ℕ) → IsFewDigits n → is_numeral (decimal n) ≡ true
is_decimal_numeral n h =
    let all : list_all is_digit (decimal n) ≡ true = digits_decimal own n (omega (arith, h)) in
    let long : 0 < length (decimal n) = decimal_nonempty n (omega (arith, h)) in
    let few : length (decimal n) ≤ 18 = length-decimal-le 18 n (omega arith) h (omega (arith, h)) in
    and_all (list_all is_digit (decimal n)) (is_short (decimal n)) (has_no_leading_zero (decimal n)) all (short_true (decimal n) long few) (no_zeros n h)
  where
    and_all : (a b c : Bool) → a ≡ true → b ≡ true → c ≡ true → (a && (b && c)) ≡ true
    and_all a b c p q r = rw (p, q, r) refl

    short_true : (text : List ℕ) → 0 < length text → length text ≤ 18 → is_short text ≡ true
    short_true text l f = grind (arith)

    or_left : (a b : Bool) → a ≡ false → (not a || b) ≡ true
    or_left a b p = rw p refl

    no_zeros : (m : ℕ) → IsFewDigits m → has_no_leading_zero (decimal m) ≡ true
    no_zeros m f = zero_or m f (nat_eq m 0) refl
      where
        zero_or : (k : ℕ) → IsFewDigits k → (b : Bool) → nat_eq k 0 ≡ b → has_no_leading_zero (decimal k) ≡ true
        zero_or k f true e = let z : k ≡ 0 = grind (arith) in rw (z, decimal_digit 0 (omega arith)) refl
        zero_or k f false e = or_left (starts_with nat_eq (decimal k) (codes "0")) (length (decimal k) == 1) (no_zero_first (decimal k) (first_decimal k (let p : 0 < k = grind (arith) in p) (omega (arith, f))))

pub natural_again : (n : ℕ) → IsFewDigits n → natural_at (decimal n) ≡ Some n
natural_again n h = rw (is_decimal_numeral n h, digits_value-decimal own n (omega (arith, h))) refl

-- ---- numbers with a sign

minus_first : (text : List ℕ) → starts_with nat_eq text (codes "-") ≡ true → text ≡ 45 ∷ drop 1 text
minus_first [] h = absurd (false≢true h)
minus_first (c ∷ text) h = let first : c ≡ 45 = grind (arith) in ap (λ b. b ∷ text) first

no_minus_first : (text : List ℕ) → list_all is_digit text ≡ true → starts_with nat_eq text (codes "-") ≡ false
no_minus_first [] h = refl
no_minus_first (c ∷ text) h = grind (arith)

abbrev pub IsInteger : List ℕ → ℤ → Type 0
IsInteger text v = IsFewDigits (unsigned_abs v) × (text ≡ signed_decimal v)

below_zero_suc : (m : ℕ) → below_zero (suc m) ≡ Some (negsuc m)
below_zero_suc m =
    let some_ : (suc m == 0) ≡ false = grind (arith) in
    let value : pos 0 -ℤ pos (suc m) ≡ negsuc m = omega (arith, ints) in
    rw some_ (ap Some value)

negative_takes : (digits : List ℕ) (magnitude : ℕ) (v : ℤ) → IsFewDigits magnitude → digits ≡ decimal magnitude → below_zero magnitude ≡ Some v → IsInteger (45 ∷ digits) v
negative_takes digits zero v few is e = let never : ⊥ = cc in absurd never
negative_takes digits (suc m) v few is e =
    let some_ : below_zero (suc m) ≡ Some (negsuc m) = below_zero_suc m in
    let value : negsuc m ≡ v = cc in
    subst (λ (z : ℤ). IsInteger (45 ∷ digits) z) value (few, ap (λ ds. 45 ∷ ds) is)

after_minus : (digits : List ℕ) (v : ℤ) (o : Option ℕ) → natural_at digits ≡ o → option_and_then below_zero o ≡ Some v → IsInteger (45 ∷ digits) v
after_minus digits v None is e = let never : ⊥ = cc in absurd never
after_minus digits v (Some m) is e = let t : IsFewDigits m × (digits ≡ decimal m) = natural_takes digits m is in negative_takes digits m v t.0 t.1 e

without_minus : (digits : List ℕ) (v : ℤ) (o : Option ℕ) → natural_at digits ≡ o → option_map pos o ≡ Some v → IsInteger digits v
without_minus digits v None is e = let never : ⊥ = cc in absurd never
without_minus digits v (Some n) is e =
    let value : pos n ≡ v = cc in
    let t : IsFewDigits n × (digits ≡ decimal n) = natural_takes digits n is in
    subst (λ (z : ℤ). IsInteger digits z) value (t.0, t.1)

pub integer_takes : (text : List ℕ) (v : ℤ) → integer_at text ≡ Some v → IsInteger text v
integer_takes text v e = chosen (starts_with nat_eq text (codes "-")) _ _ (Some v) e
    (λ is value. subst (λ (t : List ℕ). IsInteger t v) (sym (minus_first text is)) (after_minus (drop 1 text) v (natural_at (drop 1 text)) refl value))
    (λ is value. without_minus text v (natural_at text) refl value)

pub integer_again : (v : ℤ) → IsFewDigits (unsigned_abs v) → integer_at (signed_decimal v) ≡ Some v
integer_again (pos n) few = rw (no_minus_first (decimal n) (digits_decimal own n (omega (arith, few))), natural_again n few) refl
integer_again (negsuc n) few = rw (natural_again (suc n) few) (below_zero_suc n)

-- ---- cuts

abbrev pub NoSpace : List ℕ → Type 0
NoSpace text = list_all is_no_space text ≡ true

digit_no_space : (c : ℕ) → is_digit c ≡ true → is_no_space c ≡ true
digit_no_space c h = grind (arith)

pub digits_no_space : (ds : List ℕ) → list_all is_digit ds ≡ true → NoSpace ds
digits_no_space [] h = refl
digits_no_space (c ∷ ds) h =
    let first : is_digit c ≡ true = grind (arith) in
    let more : list_all is_digit ds ≡ true = grind (arith) in
    rw (digit_no_space c first, digits_no_space ds more) refl

space_found : (ds rest : List ℕ) → NoSpace ds → prefix_len is_no_space (ds ++ 32 ∷ rest) ≡ length ds
space_found [] rest h = refl
space_found (c ∷ ds) rest h =
    let first : is_no_space c ≡ true = grind (arith) in
    let more : NoSpace ds = grind (arith) in
    rw (first, space_found ds rest more) (omega arith)

split_at_space : (text : List ℕ) → prefix_len is_no_space text < length text
    → text ≡ take (prefix_len is_no_space text) text ++ 32 ∷ drop (prefix_len is_no_space text + 1) text
split_at_space text h = sym (take-append-drop k text) ∙ ap (λ (bs : List ℕ). take k text ++ bs) (at_drop_more (λ (bs : List ℕ). bs) text k 0 h ∙ ap (λ (c : ℕ). c ∷ drop (k + 1) text) space_there)
  where
    k : ℕ
    k = prefix_len is_no_space text

    no_other : (c : ℕ) → is_no_space c ≡ false → c ≡ 32
    no_other c e = grind (arith)

    space_there : get_or text k 0 ≡ 32
    space_there = no_other (get_or text k 0) (prefix_len_stops is_no_space text 0 h)

abbrev pub IsCutText : Side → List ℕ → TextLine → Type 0
IsCutText side text line = (slot : ℕ) × (v : ℤ) × (line ≡ Cut side slot v) × IsFewDigits slot × IsFewDigits (unsigned_abs v) × (text ≡ slot_and_value slot v)

cut_of_takes : (side : Side) (front back : List ℕ) (line : TextLine) (o : Option ℕ) (q : Option ℤ) → natural_at front ≡ o → integer_at back ≡ q → cut_of side o q ≡ Some line
    → IsCutText side (front ++ 32 ∷ back) line
cut_of_takes side front back line None q n i e = let never : ⊥ = cc in absurd never
cut_of_takes side front back line (Some slot) None n i e = let never : ⊥ = cc in absurd never
cut_of_takes side front back line (Some slot) (Some v) n i e =
    let s : IsFewDigits slot × (front ≡ decimal slot) = natural_takes front slot n in
    let t : IsInteger back v = integer_takes back v i in
    (slot, v, (let same : line ≡ Cut side slot v = cc in same), s.0, t.0, ap₂ (λ (a b : List ℕ). a ++ 32 ∷ b) s.1 t.1)

pub cut_takes : (side : Side) (text : List ℕ) (line : TextLine) → cut_at side text ≡ Some line → IsCutText side text line
cut_takes side text line e = let space = prefix_len is_no_space text in chosen (nat_lt space (length text)) _ None (Some line) e
    (λ is value. subst (λ (t : List ℕ). IsCutText side t line) (sym (split_at_space text (ltb-true space (length text) is)))
    (cut_of_takes side (take space text) (drop (space + 1) text) line _ _ refl refl value))
    (λ is never. let no_ : ⊥ = cc in absurd no_)

pub cut_again : (side : Side) (slot : ℕ) (v : ℤ) → IsFewDigits slot → IsFewDigits (unsigned_abs v) → cut_at side (slot_and_value slot v) ≡ Some (Cut side slot v)
cut_again side slot v few small =
    rw (space_found (decimal slot) (signed_decimal v) (digits_no_space (decimal slot) (digits_decimal own slot (omega (arith, few)))))
    (divided (decimal slot) (signed_decimal v) (natural_again slot few) (integer_again v small))
  where
    divided : (front back : List ℕ) → natural_at front ≡ Some slot → integer_at back ≡ Some v → divided_at side (front ++ 32 ∷ back) (length front) ≡ Some (Cut side slot v)
    divided front back n i =
        let less : nat_lt (length front) (length (front ++ 32 ∷ back)) ≡ true = lt-ltb (length front) (length (front ++ 32 ∷ back)) (omega (arith, length-append front (32 ∷ back))) in
        rw (less, take-append_seam front (32 ∷ back), drop-append-add front (32 ∷ back) 1, n, i) refl
