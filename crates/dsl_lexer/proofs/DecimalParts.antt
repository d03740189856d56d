-- The parts of a number's text: its digits, its point with the digits after it, and the name of its unit.
use Rattle.std.proofs.Common.{◌≡◌, ℕ, Bool, true, false, inl, inr, List, [], ◌∷◌, ◌++◌, length, drop, refl, ap, sym, ◌∙◌, arith}
use Rattle.std.specs.Prelude.{◌==◌, take_while}
use Rattle.std.specs.List.{list_all, prefix_len}
use Rattle.std.proofs.lemmas.Bool.{and_parts, and_from}
use Rattle.std.proofs.lemmas.Bool.Decides.{nat_tests}
use Rattle.std.proofs.lemmas.List.{take_at, drop_at}
use Rattle.dsl_lexer.specs.Bytes.{is_digit, is_name_start, is_name_byte}
use Rattle.dsl_lexer.specs.Kinds.{fraction, unit_name}
use Rattle.dsl_lexer.specs.Laws.{with_point, IsUnitName, IsDecimal, DecimalParts, DecimalLaw, HexadecimalLaw}
use Rattle.dsl_lexer.proofs.Fitting.{digits_pass}

-- digits before something that begins with none

run_stops : (p : ℕ → Bool) (xs ys : List ℕ) → list_all p xs ≡ true → prefix_len p ys ≡ 0 → prefix_len p (xs ++ ys) ≡ length xs
run_stops p [] ys all none = none
run_stops p (x ∷ xs) ys all none =
    let parts = and_parts (p x) (list_all p xs) all in
    let rest = run_stops p xs ys parts.1 none in
    rw parts.0 (omega arith)

record Cut (xs ys : List ℕ) : Type 0 where
  front : take_while is_digit (xs ++ ys) ≡ xs
  back : drop (prefix_len is_digit (xs ++ ys)) (xs ++ ys) ≡ ys

cut : (xs ys : List ℕ) → list_all is_digit xs ≡ true → prefix_len is_digit ys ≡ 0 → Cut xs ys
cut xs ys all none =
    let size : length xs ≡ prefix_len is_digit (xs ++ ys) = sym (run_stops is_digit xs ys all none) in
    record { front = take_at xs ys (prefix_len is_digit (xs ++ ys)) size; back = drop_at xs ys (prefix_len is_digit (xs ++ ys)) size }

start_is_no_digit : (b : ℕ) → is_name_start b ≡ true → is_digit b ≡ false
start_is_no_digit b h = grind (arith, nat_tests)

start_is_no_point : (b : ℕ) → is_name_start b ≡ true → (b == 46) ≡ false
start_is_no_point b h = grind (arith, nat_tests)

-- what stands after the digits of a number begins with none

unit_begins : (unit : List ℕ) → IsUnitName unit → prefix_len is_digit unit ≡ 0
unit_begins [] named = refl
unit_begins (b ∷ more) named = rw (start_is_no_digit b named.0) refl

behind_begins : (part unit : List ℕ) → IsUnitName unit → prefix_len is_digit (with_point part ++ unit) ≡ 0
behind_begins [] unit named = unit_begins unit named
behind_begins (d ∷ more) unit named = refl

-- the parts as they are computed

part_computed : (part unit : List ℕ) → list_all is_digit part ≡ true → IsUnitName unit → part ≡ fraction (with_point part ++ unit)
part_computed [] [] all named = refl
part_computed [] (b ∷ more) all named = rw (start_is_no_point b named.0) refl
part_computed (d ∷ more) unit all named = let c = cut (d ∷ more) unit all (unit_begins unit named) in sym c.front

unit_computed : (part unit : List ℕ) → list_all is_digit part ≡ true → IsUnitName unit → unit ≡ unit_name (with_point part ++ unit)
unit_computed [] [] all named = refl
unit_computed [] (b ∷ more) all named = rw (start_is_no_point b named.0) refl
unit_computed (d ∷ more) unit all named = let c = cut (d ∷ more) unit all (unit_begins unit named) in sym c.back

abbrev behind : List ℕ → List ℕ
behind text = drop (prefix_len is_digit text) text

record Computed (text whole part unit : List ℕ) : Type 0 where
  whole_is : whole ≡ take_while is_digit text
  part_is : part ≡ fraction (behind text)
  unit_is : unit ≡ unit_name (behind text)

computed : (text whole part unit : List ℕ) → IsDecimal text whole part unit → Computed text whole part unit
computed text whole part unit d =
    let c = cut whole (with_point part ++ unit) (digits_pass whole d.before) (behind_begins part unit d.named) in
    let rest : behind text ≡ with_point part ++ unit = ap behind d.split ∙ c.back in
    record {
      whole_is = sym (ap (take_while is_digit) d.split ∙ c.front);
      part_is = part_computed part unit d.behind d.named ∙ ap fraction (sym rest);
      unit_is = unit_computed part unit d.behind d.named ∙ ap unit_name (sym rest);
    }

-- each run of name bytes is digits and then the name of a unit, if it has one

record Run (run : List ℕ) : Type 0 where
  digits : List ℕ
  unit : List ℕ
  split : run ≡ digits ++ unit
  all : list_all is_digit digits ≡ true
  named : IsUnitName unit

start_of : (b : ℕ) → is_name_byte b ≡ true → is_digit b ≡ false → is_name_start b ≡ true
start_of b h n = grind (arith, nat_tests)

add_byte : (b : ℕ) (more : List ℕ) (t : Bool) → is_digit b ≡ t → is_name_byte b ≡ true → list_all is_name_byte more ≡ true → Run more → Run (b ∷ more)
add_byte b more true digit byte bytes rest = record {
  digits = b ∷ rest.digits;
  unit = rest.unit;
  split = ap (λ t. b ∷ t) rest.split;
  all = and_from (is_digit b) (list_all is_digit rest.digits) digit rest.all;
  named = rest.named;
}
add_byte b more false digit byte bytes rest = record { digits = []; unit = b ∷ more; split = refl; all = refl; named = (start_of b byte digit, bytes) }

run_of : (run : List ℕ) → list_all is_name_byte run ≡ true → Run run
run_of [] h = record { digits = []; unit = []; split = refl; all = refl; named = tt }
run_of (b ∷ more) h = let parts = and_parts (is_name_byte b) (list_all is_name_byte more) h in add_byte b more (is_digit b) refl parts.0 parts.1 (run_of more parts.1)

parts_of : (text whole part unit : List ℕ) → IsDecimal text whole part unit → DecimalParts text
parts_of text whole part unit d =
    let c = computed text whole part unit d in
    record {
      whole = whole;
      part = part;
      unit = unit;
      cut = d;
      only = λ w p u e. let o = computed text w p u e in (o.whole_is ∙ sym c.whole_is, o.part_is ∙ sym c.part_is, o.unit_is ∙ sym c.unit_is);
      kind = λ apart. rw (apart, c.whole_is, c.part_is, c.unit_is) refl;
    }

pub decimal_law : DecimalLaw
decimal_law [] (inl none) = absurd none
decimal_law (b ∷ more) (inl (digit, named)) =
    let run = run_of more named in
    parts_of (b ∷ more) (b ∷ run.digits) [] run.unit (record { split = ap (λ t. b ∷ t) run.split; before = (digit, run.all); behind = refl; named = run.named })
decimal_law text (inr (whole, [], split, digits, none)) = absurd none
decimal_law text (inr (whole, c ∷ more, split, digits, (digit, named))) =
    let run = run_of more named in
    parts_of text whole (c ∷ run.digits) run.unit (record {
      split = split ∙ ap (λ t. whole ++ 46 ∷ c ∷ t) run.split;
      before = digits;
      behind = and_from (is_digit c) (list_all is_digit run.digits) digit run.all;
      named = run.named;
    })

pub hexadecimal_law : HexadecimalLaw
hexadecimal_law digits = refl
