-- The numbers of a source have at most 18 digits.
use Rattle.std.proofs.Common.{◌≡◌, ℕ, suc, ◌+◌, ◌*◌, ◌^◌, ◌<◌, ◌≤◌, Bool, true, false, ◌&&◌, not, cond, Option, Some, None, List, [], ◌∷◌, ◌++◌, length, take, drop, refl, ap, sym, subst, ◌∙◌, arith}
use Rattle.std.specs.Prelude.{◌==◌, nat_lt, nat_le, codes}
use Rattle.std.specs.List.{list_all, take_while, prefix_len}
use Rattle.std.specs.Str.{bytes_eq}
use Rattle.std.specs.Char.{digit_value}
use Rattle.std.proofs.Math.Nat.{pow-zero, pow-succ', pow-le-pow_right, mul-one, mul_assoc, suc-mul, mul-le-mul_right}
use Rattle.std.proofs.lemmas.Bool.{and_parts, cond_both}
use Rattle.std.proofs.lemmas.Bool.Decides.{nat_tests}
use Rattle.std.proofs.lemmas.List.Folds.{list_all-append}
use Rattle.std.proofs.lemmas.List.{length-append}
use Rattle.name_scope.specs.dsl_tree.declared.token.TokenKind.{TokenKind}
use Rattle.dsl_lexer.specs.Bytes.{is_digit, is_hexadecimal_digit}
use Rattle.dsl_lexer.specs.Values.{value_from}
use Rattle.dsl_lexer.specs.Kinds.{fraction, unit_name, number_kind, hexadecimal_kind, decimal_kind, is_word}
use Rattle.loaded_programs.specs.TokenLaws.{has_few_digits}

digit_below : (b : ℕ) → is_digit b ≡ true → digit_value b < 10
digit_below b h = grind (arith, nat_tests)

hexadecimal_below : (b : ℕ) → is_hexadecimal_digit b ≡ true → digit_value b < 16
hexadecimal_below b h = grind (arith, nat_tests)

-- digits of a base stand for less than the base to the power of their count
module _ (base : ℕ) (p : ℕ → Bool) (below : (b : ℕ) → p b ≡ true → digit_value b < base) where
  grows : (start m : ℕ) (digits : List ℕ) → list_all p digits ≡ true → start < m → value_from base start digits < m * base ^ length digits
  grows start m [] all h = rw (pow-zero base, mul-one m) h
  grows start m (b ∷ more) all h =
      let parts = and_parts (p b) (list_all p more) all in
      let d = below b parts.0 in
      let s : suc start * base ≤ m * base = mul-le-mul_right base h in
      let t : start * base + digit_value b < m * base = let u = suc-mul start base in omega arith in
      let g = grows (start * base + digit_value b) (m * base) more parts.1 t in
      let e : m * base * base ^ length more ≡ m * base ^ suc (length more) = mul_assoc m base (base ^ length more) ∙ ap (λ k. m * k) (sym (pow-succ' base (length more))) in
      rw (← e) g

  value_below : (k : ℕ) (digits : List ℕ) → 0 < base → list_all p digits ≡ true → length digits ≤ k → value_from base 0 digits < base ^ k
  value_below k digits positive all few =
      let g = grows 0 1 digits all (omega arith) in
      let l : base ^ length digits ≤ base ^ k = pow-le-pow_right positive few in
      omega arith

taken : (p : ℕ → Bool) (xs : List ℕ) → list_all p (take_while p xs) ≡ true
taken p [] = refl
taken p (x ∷ xs) = by (p x) refl (taken p xs)
  where
    next : prefix_len p xs + 1 ≡ suc (prefix_len p xs)
    next = omega arith

    by : (b : Bool) → p x ≡ b → list_all p (take_while p xs) ≡ true → list_all p (take (cond b (1 + prefix_len p xs) 0) (x ∷ xs)) ≡ true
    by true e rest = subst (λ n. list_all p (take n (x ∷ xs)) ≡ true) {x = suc (prefix_len p xs)} {y = 1 + prefix_len p xs} (omega arith) (rw e rest)
    by false e rest = refl

fraction_digits : (xs : List ℕ) → list_all is_digit (fraction xs) ≡ true
fraction_digits [] = refl
fraction_digits (b ∷ more) = cond_both (b == 46) (take_while is_digit more) [] (λ ds. list_all is_digit ds ≡ true) (λ _. taken is_digit more) (λ _. refl)

-- a text that may be a number is one with few digits
abbrev pub IsShortKind : Option TokenKind → Type 0
IsShortKind None = Unit {0}
IsShortKind (Some kind) = has_few_digits kind ≡ true

few_and : (a b : ℕ) → a < 10 ^ 18 → b ≤ 18 → nat_lt a (10 ^ 18) && nat_le b 18 ≡ true
few_and a b h k = grind (arith, nat_tests)

le_true : (a b : ℕ) → nat_le a b ≡ true → a ≤ b
le_true a b h = grind (arith, nat_tests)

decimal_few : (whole part : List ℕ) → list_all is_digit whole ≡ true → list_all is_digit part ≡ true → nat_le (length whole + length part) 18 ≡ true
    → nat_lt (value_from 10 0 (whole ++ part)) (10 ^ 18) && nat_le (length part) 18 ≡ true
decimal_few whole part w p h =
    let few = le_true (length whole + length part) 18 h in
    let all : list_all is_digit (whole ++ part) ≡ true = list_all-append is_digit whole part ∙ rw (w, p) refl in
    few_and (value_from 10 0 (whole ++ part)) (length part)
    (value_below 10 is_digit digit_below 18 (whole ++ part) (omega arith) all (rw (length-append whole part) few)) (omega arith)

decimal_short : (whole part unit : List ℕ) → list_all is_digit whole ≡ true → list_all is_digit part ≡ true → IsShortKind (decimal_kind whole part unit)
decimal_short whole part [] w p = cond_both (nat_le (length whole + length part) 18) _ None IsShortKind (λ h. decimal_few whole part w p h) (λ _. tt)
decimal_short whole part (b ∷ unit) w p =
    cond_both (nat_le (length whole + length part) 18 && not (is_word (b ∷ unit))) _ None IsShortKind (λ h. decimal_few whole part w p (and_parts _ _ h).0) (λ _. tt)

hexadecimal_few : (digits : List ℕ) → list_all is_hexadecimal_digit digits && nat_le 1 (length digits) && nat_le (length digits) 14 ≡ true
    → nat_lt (value_from 16 0 digits) (10 ^ 18) && nat_le 0 18 ≡ true
hexadecimal_few digits h =
    let outer = and_parts (list_all is_hexadecimal_digit digits && nat_le 1 (length digits)) (nat_le (length digits) 14) h in
    let inner = and_parts (list_all is_hexadecimal_digit digits) (nat_le 1 (length digits)) outer.0 in
    let l = value_below 16 is_hexadecimal_digit hexadecimal_below 14 digits (omega arith) inner.0 (le_true (length digits) 14 outer.1) in
    few_and (value_from 16 0 digits) 0 (omega arith) (omega arith)

hexadecimal_short : (digits : List ℕ) → IsShortKind (hexadecimal_kind digits)
hexadecimal_short digits =
    cond_both (list_all is_hexadecimal_digit digits && nat_le 1 (length digits) && nat_le (length digits) 14) _ None IsShortKind (λ h. hexadecimal_few digits h) (λ _. tt)

pub number_short : (text : List ℕ) → IsShortKind (number_kind text)
number_short text =
    cond_both (bytes_eq (take 2 text) (codes "0x")) (hexadecimal_kind (drop 2 text)) _ IsShortKind (λ _. hexadecimal_short (drop 2 text))
    (λ _. decimal_short (take_while is_digit text) (fraction (drop (prefix_len is_digit text) text)) (unit_name (drop (prefix_len is_digit text) text)) (taken is_digit text) (fraction_digits (drop (prefix_len is_digit text) text)))
