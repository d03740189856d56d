-- The last of some numbers stands at their end.
use Rattle.std.proofs.Common.{◌≡◌, ◌∙◌, refl, ap, arith, ℕ, zero, suc, ◌-◌, ◌<◌, ◌≤◌, Bool, true, false, List, [], ◌∷◌, None, cond, drop, length, slice_get}
use Rattle.std.specs.Prelude.{nat_lt}
use Rattle.std.proofs.lemmas.Bool.Decides.{nat_tests}
use Rattle.string_texts.specs.type_heads.Told.{last_number}

pub last_is : (ts : List ℕ) → slice_get ts (length ts - 1) ≡ last_number ts
last_is [] = refl
last_is (t ∷ []) = refl
last_is (t ∷ u ∷ us) =
    let whole : length (t ∷ u ∷ us) - 1 ≡ suc (length us) = omega arith in
    let rest : length us ≡ length (u ∷ us) - 1 = omega arith in
    ap (slice_get (t ∷ u ∷ us)) whole ∙ ap (slice_get (u ∷ us)) rest ∙ last_is (u ∷ us)

-- the last is among those that are left, if any are
last_kept : (count : ℕ) (ts : List ℕ) → count < length ts → last_number ts ≡ last_number (drop count ts)
last_kept zero ts less = refl
last_kept (suc n) [] less = absurd (omega (arith, less))
last_kept (suc n) (t ∷ []) less = absurd (omega (arith, less))
last_kept (suc n) (t ∷ u ∷ us) less = last_kept n (u ∷ us) (omega (arith, less))

none_left : (count : ℕ) (ts : List ℕ) → length ts ≤ count → None ≡ last_number (drop count ts)
none_left zero [] le = refl
none_left (suc n) [] le = refl
none_left zero (t ∷ ts) le = absurd (omega (arith, le))
none_left (suc n) (t ∷ ts) le = none_left n ts (omega (arith, le))

less_than : (a b : ℕ) → nat_lt a b ≡ true → a < b
less_than a b e = grind (arith, nat_tests)

no_less_than : (a b : ℕ) → nat_lt a b ≡ false → b ≤ a
no_less_than a b e = grind (arith, nat_tests)

-- the last of some numbers without the first of them
pub last_left : (count : ℕ) (ts : List ℕ) → cond (nat_lt count (length ts)) (last_number ts) None ≡ last_number (drop count ts)
last_left count ts = by (nat_lt count (length ts)) refl
  where
    by : (b : Bool) → nat_lt count (length ts) ≡ b → cond b (last_number ts) None ≡ last_number (drop count ts)
    by true is = last_kept count ts (less_than count (length ts) is)
    by false is = none_left count ts (no_less_than count (length ts) is)
