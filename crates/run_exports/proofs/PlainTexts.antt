-- What is written of numbers and paths is plain.
use Rattle.std.proofs.Common.{◌≡◌, ◌∙◌, refl, sym, ap, true≢false, arith, ℕ, zero, suc, ◌+◌, ◌-◌, ◌/◌, ◌%◌, ◌^◌, ◌<◌, ◌≤◌, Bool, true, false, not, cond, ◌&&◌, ◌||◌, List, [], ◌∷◌, ◌++◌, length, ltb-true}
use Rattle.std.specs.Prelude.{ℤ, pos, negsuc, nat_eq, nat_lt, nat_le, replicate, unsigned_abs, flat_map}
use Rattle.std.specs.List.{list_all}
use Rattle.std.specs.Fmt.{decimal, signed_decimal, sign_text}
use Rattle.std.specs.Int.{is_negative}
use Rattle.std.proofs.lemmas.Bool.Decides.{nat_tests}
use Rattle.std.proofs.lemmas.Fmt.{decimal_by_steps_wide}
use Rattle.osc_base.specs.declared.path.Step.{Step}
use Rattle.osc_base.specs.declared.path.Step.TheVariants.{Name, Index, Member}
use Rattle.osc_base.specs.Path.{path_text, later_step_text}
use Rattle.osc_base.specs.PathTexts.{begins_name, continues_name, is_digit, is_name, is_step, are_steps, is_written, before_member}
use Rattle.osc_base.proofs.PathReading.{name_continues}
use Rattle.run_exports.specs.Decimals.{padded, fixed, signed_fixed}
use Rattle.run_exports.specs.Plain.{is_plain}
use Rattle.run_exports.proofs.Cuts.{both, joined, free, kind_free}

-- ---- digits

is_digit_of : (n : ℕ) → n < 10 → is_digit (48 + n) ≡ true
is_digit_of n h = grind (arith, nat_tests)

pub all_digits : (n : ℕ) → n < 10 ^ 64 → list_all is_digit (decimal n) ≡ true
all_digits n h = decimal_by_steps_wide (λ n ds. list_all is_digit ds ≡ true)
    (λ n less. λ i. is_digit_of n less i && true)
    (λ n ds more front. joined is_digit ds ((48 + n % 10) ∷ []) front (λ i. is_digit_of (n % 10) (omega arith) i && true)) n h

-- digits are none of another kind
pub digits_free : (mark : ℕ) → is_digit mark ≡ false → (n : ℕ) → n < 10 ^ 64 → free mark (decimal n) ≡ true
digits_free mark other n h = kind_free is_digit mark other (decimal n) (all_digits n h)

or_right : (a b : Bool) → b ≡ true → a || b ≡ true
or_right true b h = refl
or_right false b h = h

weaker : (p q : ℕ → Bool) → ((b : ℕ) → p b ≡ true → q b ≡ true) → (xs : List ℕ) → list_all p xs ≡ true → list_all q xs ≡ true
weaker p q step [] h = refl
weaker p q step (x ∷ xs) h =
    let parts = both (p x) (list_all p xs) h in
    λ i. step x parts.0 i && weaker p q step xs parts.1 i

continues_plain : (b : ℕ) → continues_name b ≡ true → is_plain b ≡ true
continues_plain b h = ap (λ c. c || ((nat_eq b 46 || nat_eq b 91) || (nat_eq b 93 || nat_eq b 45))) h

digit_plain : (b : ℕ) → is_digit b ≡ true → is_plain b ≡ true
digit_plain b h = continues_plain b (or_right (begins_name b) (is_digit b) h)

pub decimal_plain : (n : ℕ) → n < 10 ^ 64 → list_all is_plain (decimal n) ≡ true
decimal_plain n h = weaker is_digit is_plain digit_plain (decimal n) (all_digits n h)

zeros_plain : (k : ℕ) → list_all is_plain (replicate k 48) ≡ true
zeros_plain zero = refl
zeros_plain (suc k) = zeros_plain k

pub padded_plain : (k n : ℕ) → n < 10 ^ 64 → list_all is_plain (padded k n) ≡ true
padded_plain k n h = joined is_plain (replicate (k - length (decimal n)) 48) (decimal n) (zeros_plain (k - length (decimal n))) (decimal_plain n h)

pub fixed_plain : (k n : ℕ) → n / 10 ^ k < 10 ^ 64 → n % 10 ^ k < 10 ^ 64 → list_all is_plain (fixed k n) ≡ true
unfolding fixed
fixed_plain k n whole part =
    joined is_plain (decimal (n / 10 ^ k) ++ 46 ∷ []) (padded k (n % 10 ^ k))
    (joined is_plain (decimal (n / 10 ^ k)) (46 ∷ []) (decimal_plain (n / 10 ^ k) whole) refl) (padded_plain k (n % 10 ^ k) part)

pub sign_plain : (b : Bool) → list_all is_plain (sign_text b) ≡ true
sign_plain true = refl
sign_plain false = refl

pub signed_fixed_plain : (k : ℕ) (z : ℤ) → list_all is_plain (fixed k (unsigned_abs z)) ≡ true → list_all is_plain (signed_fixed k z) ≡ true
unfolding signed_fixed
signed_fixed_plain k z h = joined is_plain (sign_text (is_negative z)) (fixed k (unsigned_abs z)) (sign_plain (is_negative z)) h

pub signed_decimal_plain : (z : ℤ) → unsigned_abs z < 10 ^ 64 → list_all is_plain (signed_decimal z) ≡ true
signed_decimal_plain (pos n) h = decimal_plain n h
signed_decimal_plain (negsuc n) h = decimal_plain (suc n) h

-- ---- paths

bracket_plain : (n : ℕ) → nat_lt n (2 ^ 32) ≡ true → list_all is_plain ((91 ∷ decimal n) ++ 93 ∷ []) ≡ true
bracket_plain n h = joined is_plain (91 ∷ decimal n) (93 ∷ []) (decimal_plain n (omega (arith, ltb-true n (2 ^ 32) h))) refl

name_plain : (name : List ℕ) → is_name name ≡ true → list_all is_plain name ≡ true
name_plain name h = weaker continues_name is_plain continues_plain name (name_continues name h)

step_plain : (of_member : Bool) (step : Step) → is_step of_member step ≡ true → list_all is_plain (later_step_text step) ≡ true
step_plain of_member (Name name) h = name_plain name h
step_plain of_member (Index n) h = bracket_plain n (both (not of_member) (nat_lt n (2 ^ 32)) h).1
step_plain of_member (Member n) h = bracket_plain n (both of_member (nat_lt n (2 ^ 32)) h).1

steps_plain : (of_member : Bool) (steps : List Step) → are_steps of_member steps ≡ true → list_all is_plain (flat_map later_step_text steps) ≡ true
steps_plain of_member [] h = refl
steps_plain of_member (step ∷ later) h =
    let parts = both (is_step of_member step) (are_steps (before_member step) later) h in
    joined is_plain (later_step_text step) (flat_map later_step_text later) (step_plain of_member step parts.0) (steps_plain (before_member step) later parts.1)

-- a path's text has nothing that a table or an XML text would have to mark
pub path_plain : (steps : List Step) → is_written steps ≡ true → list_all is_plain (path_text steps) ≡ true
path_plain [] h = absurd (true≢false (sym h))
path_plain (Name name ∷ later) h =
    let parts = both (is_name name) (are_steps (before_member (Name name)) later) h in
    joined is_plain name (flat_map later_step_text later) (name_plain name parts.0) (steps_plain (before_member (Name name)) later parts.1)
path_plain (Index n ∷ later) h = absurd (true≢false (sym h))
path_plain (Member n ∷ later) h = absurd (true≢false (sym h))
