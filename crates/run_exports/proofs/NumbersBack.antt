-- Numbers are read back from their decimals.
use Rattle.std.proofs.Common.{◌≡◌, ◌∙◌, refl, sym, ap, true≢false, arith, ℕ, zero, suc, ◌+◌, ◌-◌, ◌*◌, ◌/◌, ◌%◌, ◌^◌, ◌<◌, ◌≤◌, Bool, true, false, not, cond, ◌&&◌, List, [], ◌∷◌, ◌++◌, length, take, append_assoc, length-append}
use Rattle.std.specs.Prelude.{ℤ, pos, negsuc, neg_ℤ, nat_eq, nat_lt, replicate, unsigned_abs}
use Rattle.std.specs.List.{list_all}
use Rattle.std.specs.Fmt.{decimal, signed_decimal, sign_text}
use Rattle.std.specs.Int.{is_negative}
use Rattle.std.specs.Str.Parse.{digits_value}
use Rattle.std.proofs.lemmas.Bool.Decides.{nat_tests}
use Rattle.std.proofs.lemmas.Fmt.{decimal_is_IsNumeral_wide, length-decimal-le_wide}
use Rattle.std.proofs.lemmas.List.{take_at, length-replicate}
use Rattle.run_exports.specs.Decimals.{padded, fixed, signed_fixed}
use Rattle.run_exports.specs.Plain.{is_plain, is_i64}
use Rattle.run_exports.specs.Reading.{before, behind, scaled, signed_scaled}
use Rattle.run_exports.proofs.Cuts.{both, free, joined, before_mark, behind_mark, before_none}
use Rattle.run_exports.proofs.PlainTexts.{all_digits, digits_free}

pub decimal_back : (n : ℕ) → n < 10 ^ 64 → digits_value 10 (decimal n) ≡ n
decimal_back n h = (decimal_is_IsNumeral_wide n h).1

zeros_back : (k : ℕ) (ds : List ℕ) → digits_value 10 (replicate k 48 ++ ds) ≡ digits_value 10 ds
zeros_back zero ds = refl
zeros_back (suc k) ds = zeros_back k ds

padded_back : (k n : ℕ) → n < 10 ^ 64 → digits_value 10 (padded k n) ≡ n
padded_back k n h = zeros_back (k - length (decimal n)) (decimal n) ∙ decimal_back n h

padded_length : (k n : ℕ) → 0 < k → n < 10 ^ k → n < 10 ^ 64 → length (padded k n) ≡ k
padded_length k n some less h =
    let short : length (decimal n) ≤ k = length-decimal-le_wide k n some less h in
    length-append (replicate (k - length (decimal n)) 48) (decimal n)
    ∙ ap (λ m. m + length (decimal n)) (length-replicate (k - length (decimal n)) 48)
    ∙ omega arith

-- the parts of a decimal with places
pub scaled_back : (k q r : ℕ) → 0 < k → q < 10 ^ 64 → r < 10 ^ k → r < 10 ^ 64
    → scaled k ((decimal q ++ 46 ∷ []) ++ padded k r) ≡ q * 10 ^ k + r
scaled_back k q r some whole less h =
    ap (scaled k) (append_assoc (decimal q) (46 ∷ []) (padded k r))
    ∙ (λ i. digits_value 10 (before_mark 46 (decimal q) (padded k r) (digits_free 46 refl q whole) i) * 10 ^ k
    + digits_value 10 (take k (behind_mark 46 (decimal q) (padded k r) (digits_free 46 refl q whole) i ++ replicate k 48)))
    ∙ (λ i. digits_value 10 (decimal q) * 10 ^ k + digits_value 10 (take_at (padded k r) (replicate k 48) k (padded_length k r some less h) i))
    ∙ (λ i. decimal_back q whole i * 10 ^ k + padded_back k r h i)

pub thousandths_back : (n : ℕ) → n < 10 ^ 64 → scaled 3 (fixed 3 n) ≡ n
unfolding fixed
thousandths_back n h =
    scaled_back 3 (n / 1000) (n % 1000) (omega arith) (omega arith) (omega arith) (omega arith) ∙ omega arith

pub millionths_back : (n : ℕ) → n < 10 ^ 64 → scaled 6 (fixed 6 n) ≡ n
unfolding fixed
millionths_back n h =
    scaled_back 6 (n / 1000000) (n % 1000000) (omega arith) (omega arith) (omega arith) (omega arith) ∙ omega arith

pub whole_back : (n : ℕ) → n < 10 ^ 64 → scaled 0 (decimal n) ≡ n
whole_back n h =
    (λ i. digits_value 10 (before_none 46 (decimal n) (digits_free 46 refl n h) i) * 1 + 0)
    ∙ ap (λ m. m * 1 + 0) (decimal_back n h) ∙ omega arith

-- ---- signs

pub unsigned : (k : ℕ) (xs : List ℕ) → free 45 xs ≡ true → signed_scaled k xs ≡ pos (scaled k xs)
unsigned k [] h = refl
unsigned k (b ∷ bs) h = by (nat_eq b 45) h
  where
    by : (t : Bool) → not t && free 45 bs ≡ true → cond t (neg_ℤ (pos (scaled k bs))) (pos (scaled k (b ∷ bs))) ≡ pos (scaled k (b ∷ bs))
    by true g = absurd (true≢false (sym g))
    by false g = refl

pub fixed_unsigned : (k n : ℕ) → n / 10 ^ k < 10 ^ 64 → n % 10 ^ k < 10 ^ 64 → free 45 (fixed k n) ≡ true
unfolding fixed
fixed_unsigned k n whole part =
    joined (λ b. not (nat_eq b 45)) (decimal (n / 10 ^ k) ++ 46 ∷ []) (padded k (n % 10 ^ k))
    (joined (λ b. not (nat_eq b 45)) (decimal (n / 10 ^ k)) (46 ∷ []) (digits_free 45 refl (n / 10 ^ k) whole) refl)
    (joined (λ b. not (nat_eq b 45)) (replicate (k - length (decimal (n % 10 ^ k))) 48) (decimal (n % 10 ^ k))
    (zeros (k - length (decimal (n % 10 ^ k)))) (digits_free 45 refl (n % 10 ^ k) part))
  where
    zeros : (m : ℕ) → free 45 (replicate m 48) ≡ true
    zeros zero = refl
    zeros (suc m) = zeros m

pub above : (n : ℕ) → is_negative (pos n) ≡ false
above n = grind (arith, nat_tests)

-- a number with a sign, of whose size the decimal is read back
pub signed_back : (k : ℕ) (z : ℤ) → free 45 (fixed k (unsigned_abs z)) ≡ true → scaled k (fixed k (unsigned_abs z)) ≡ unsigned_abs z
    → signed_scaled k (signed_fixed k z) ≡ z
unfolding signed_fixed
signed_back k (pos n) clear same =
    ap (λ b. signed_scaled k (sign_text b ++ fixed k n)) (above n) ∙ unsigned k (fixed k n) clear ∙ ap pos same
signed_back k (negsuc n) clear same = ap (λ m. neg_ℤ (pos m)) same

pub signed_thousandths_back : (z : ℤ) → unsigned_abs z < 10 ^ 64 → signed_scaled 3 (signed_fixed 3 z) ≡ z
signed_thousandths_back z h =
    signed_back 3 z (fixed_unsigned 3 (unsigned_abs z) (omega arith) (omega arith)) (thousandths_back (unsigned_abs z) h)

pub signed_millionths_back : (z : ℤ) → unsigned_abs z < 10 ^ 64 → signed_scaled 6 (signed_fixed 6 z) ≡ z
signed_millionths_back z h =
    signed_back 6 z (fixed_unsigned 6 (unsigned_abs z) (omega arith) (omega arith)) (millionths_back (unsigned_abs z) h)

pub signed_whole_back : (z : ℤ) → unsigned_abs z < 10 ^ 64 → signed_scaled 0 (signed_decimal z) ≡ z
signed_whole_back (pos n) h = unsigned 0 (decimal n) (digits_free 45 refl n h) ∙ ap pos (whole_back n h)
signed_whole_back (negsuc n) h = ap (λ m. neg_ℤ (pos m)) (whole_back (suc n) h)
