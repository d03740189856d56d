-- How large the number is that digits stand for.
use Rattle.std.proofs.Common.{◌≡◌, ℕ, suc, ◌+◌, ◌*◌, ◌^◌, ◌<◌, ◌≤◌, Bool, true, List, [], ◌∷◌, length, take, drop, get_or, refl, ap, sym, ◌∙◌, arith, ◌-◌, pow-add}
use Rattle.std.proofs.Math.Nat.{pow-zero, pow-succ', pow-le-pow_right, mul-one, one-mul, mul_assoc, suc-mul, mul-le-mul_right}
use Rattle.std.specs.List.{list_all}
use Rattle.std.specs.Char.{digit_value}
use Rattle.std.proofs.lemmas.Bool.{and_parts}
use Rattle.std.proofs.lemmas.Bool.Decides.{nat_tests}
use Rattle.std.proofs.lemmas.List.{length-take, take-append-drop}
use Rattle.std.proofs.lemmas.List.Folds.{list_all-append}
use Rattle.std.proofs.lemmas.List.Sums.{fold_more}
use Rattle.std.specs.Prelude.{◌==◌}
use Rattle.std.specs.List.{prefix_len}
use Rattle.std.specs.Str.{IsUtf8, IsAscii}
use Rattle.std.proofs.lemmas.Bool.{cond_both}
use Rattle.std.proofs.lemmas.List.{take_at}
use Rattle.std.proofs.lemmas.Str.{IsAscii-drop, IsUtf8-from_ascii}
use Rattle.dsl_lexer.specs.Kinds.{fraction, unit_name}
use Rattle.dsl_lexer.proofs.Fronts.{run_of}
use Rattle.dsl_lexer.specs.Bytes.{is_digit, is_hexadecimal_digit}
use Rattle.dsl_lexer.specs.Values.{value_from, Fits}

pub value_step : (base start : ℕ) (digits : List ℕ) (i : ℕ) → Fits base start digits → i < length digits → value_from base start (take i digits) * base + digit_value (get_or digits i 0) < 2 ^ 64
value_step base start digits i fits h = rw (← fold_more (λ n d. n * base + digit_value d) start digits i 0 h) (fits (i + 1) (omega arith))

digit_below : (b : ℕ) → is_digit b ≡ true → digit_value b < 10
digit_below b h = grind (arith, nat_tests)

hexadecimal_below : (b : ℕ) → is_hexadecimal_digit b ≡ true → digit_value b < 16
hexadecimal_below b h = grind (arith, nat_tests)

module _ (base : ℕ) (p : ℕ → Bool) (below : (b : ℕ) → p b ≡ true → digit_value b < base) where
  grows : (start m : ℕ) (digits : List ℕ) → list_all p digits ≡ true → start < m → value_from base start digits < m * base ^ length digits
  grows start m [] all h = rw (pow-zero base, mul-one m) h
  grows start m (b ∷ more) all h =
      let parts = and_parts (p b) (list_all p more) all in
      let d = below b parts.0 in
      let s : suc start * base ≤ m * base = mul-le-mul_right base h in
      let t : start * base + digit_value b < m * base = let u = suc-mul start base in omega arith in
      let g = grows (start * base + digit_value b) (m * base) more parts.1 t in
      let e : m * base * base ^ length more ≡ m * base ^ suc (length more) = mul_assoc m base (base ^ length more) ∙ ap (λ k. m * k) (sym (pow-succ' base (length more))) in
      rw (← e) g

  take_all_pass : (n : ℕ) (digits : List ℕ) → list_all p digits ≡ true → list_all p (take n digits) ≡ true
  take_all_pass n digits all = (and_parts (list_all p (take n digits)) (list_all p (drop n digits)) (sym (list_all-append p (take n digits) (drop n digits)) ∙ ap (list_all p) (take-append-drop n digits) ∙ all)).0

  pub small : (start j k : ℕ) (digits : List ℕ) → 0 < base → list_all p digits ≡ true → start < base ^ j → j + length digits ≤ k → base ^ k ≤ 2 ^ 64 → Fits base start digits
  small start j k digits positive all h room top n within =
      let g = grows start (base ^ j) (take n digits) (take_all_pass n digits all) h in
      let size : j + length (take n digits) ≤ k = omega (arith, length-take n digits) in
      let e : base ^ j * base ^ length (take n digits) ≡ base ^ (j + length (take n digits)) = sym (pow-add base j (length (take n digits))) in
      let l : base ^ (j + length (take n digits)) ≤ base ^ k = pow-le-pow_right positive size in
      let t : value_from base start (take n digits) < base ^ (j + length (take n digits)) = rw (← e) g in
      omega arith

pub small_hexadecimal : (digits : List ℕ) → list_all is_hexadecimal_digit digits ≡ true → length digits ≤ 14 → Fits 16 0 digits
small_hexadecimal digits all h = small 16 is_hexadecimal_digit hexadecimal_below 0 0 14 digits (omega arith) all (omega arith) (omega arith) (omega arith)

pub small_whole : (digits : List ℕ) → list_all is_digit digits ≡ true → length digits ≤ 18 → Fits 10 0 digits
small_whole digits all h = small 10 is_digit digit_below 0 0 18 digits (omega arith) all (omega arith) (omega arith) (omega arith)

pub small_part : (whole part : List ℕ) (start : ℕ) → start ≡ value_from 10 0 whole → list_all is_digit whole ≡ true → list_all is_digit part ≡ true → length part ≤ 18 - length whole → length whole ≤ 18 → Fits 10 start part
small_part whole part start e all all' room h =
    let g = grows 10 is_digit digit_below 0 1 whole all (omega arith) in
    let t : start < 10 ^ length whole = rw (e, ← one-mul (10 ^ length whole)) g in
    small 10 is_digit digit_below start (length whole) 18 part (omega arith) all' t (omega arith) (omega arith)

-- the parts of a number's text

pub run_taken : (p : ℕ → Bool) (xs : List ℕ) → list_all p (take (prefix_len p xs) xs) ≡ true
run_taken p xs =
    let run = run_of p xs in
    let e : take (prefix_len p xs) xs ≡ run.text = ap (take (prefix_len p xs)) run.split ∙ take_at run.text run.behind (prefix_len p xs) run.size in
    ap (list_all p) e ∙ run.all

pub fraction_digits : (behind : List ℕ) → list_all is_digit (fraction behind) ≡ true
fraction_digits [] = refl
fraction_digits (b ∷ more) = cond_both (b == 46) (take (prefix_len is_digit more) more) [] (λ t. list_all is_digit t ≡ true) (λ _. run_taken is_digit more) (λ _. refl)

unit_ascii : (behind : List ℕ) → IsAscii behind → IsAscii (unit_name behind)
unit_ascii [] h = h
unit_ascii (b ∷ more) h = cond_both (b == 46) (drop (prefix_len is_digit more) more) (b ∷ more) IsAscii (λ _. IsAscii-drop more (prefix_len is_digit more) (IsAscii-drop (b ∷ more) 1 h)) (λ _. h)

pub unit_utf8 : (text : List ℕ) (n : ℕ) → IsAscii text → IsUtf8 (unit_name (drop n text))
unit_utf8 text n h = IsUtf8-from_ascii (unit_name (drop n text)) (unit_ascii (drop n text) (IsAscii-drop text n h))
