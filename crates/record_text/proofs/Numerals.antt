-- Digits without leading zeros are what `decimal` writes of their value, and of no other number.
use Rattle.std.proofs.Common.{◌≡◌, ℕ, ◌+◌, ◌-◌, ◌*◌, ◌^◌, ◌<◌, ◌≤◌, true, List, length, get_or, take, rules, arith}
use Rattle.std.proofs.lemmas.Str.Parse.{IsNumeralModel, numerals_by_value, digit_at, digits_value_short, digits_value-take-le}
use Rattle.std.proofs.lemmas.Int.Digits.{digits_value_more}
use Rattle.std.proofs.lemmas.Str.{digit_value_digit}
use Rattle.std.specs.List.{list_all}
use Rattle.std.specs.Str.Parse.{digits_value}
use Rattle.record_text.specs.Scan.{is_digit}

pub own : IsNumeralModel (λ ds. list_all is_digit ds ≡ true) (digits_value 10)
own = numerals_by_value _ (search rules)

-- one digit more
pub value_more : (ds : List ℕ) (i : ℕ) → list_all is_digit ds ≡ true → i < length ds
    → digits_value 10 (take (i + 1) ds) ≡ digits_value 10 (take i ds) * 10 + (get_or ds i 0 - 48)
value_more ds i all less = omega (arith, digits_value_more 10 ds i less, digit_value_digit (get_or ds i 0) (digit_at ds i (own.to ds all) less))

pub digit_least : (ds : List ℕ) (i : ℕ) → list_all is_digit ds ≡ true → i < length ds → 48 ≤ get_or ds i 0
digit_least ds i all less = (digit_at ds i (own.to ds all) less).0

-- the number so far, with the next digit, has at most 18 digits
pub value_small : (ds : List ℕ) (i : ℕ) → list_all is_digit ds ≡ true → length ds ≤ 18 → digits_value 10 (take i ds) < 10 ^ 18
value_small ds i all few = omega (arith, digits_value_short own ds 18 all few, digits_value-take-le 10 ds i (omega arith))

pub next_small : (ds : List ℕ) (i : ℕ) → list_all is_digit ds ≡ true → length ds ≤ 18 → i < length ds
    → digits_value 10 (take i ds) * 10 + (get_or ds i 0 - 48) < 10 ^ 18
next_small ds i all few less = omega (arith, value_more ds i all less, value_small ds (i + 1) all few)
