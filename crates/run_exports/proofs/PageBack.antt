-- The text of a run is read from its page.
use Rattle.std.proofs.Common.{◌≡◌, ◌∙◌, refl, sym, ap, subst, true≢false, arith, ℕ, zero, suc, ◌+◌, ◌/◌, ◌%◌, ◌<◌, Bool, true, false, not, cond, ◌&&◌, List, [], ◌∷◌, ◌++◌, codes, drop, append_assoc, append-nil, eqb-true, ltb-true}
use Rattle.std.specs.Prelude.{ℤ, pos, negsuc, nat_eq, nat_lt, flat_map, if◌then◌else◌, ◌==◌}
use Rattle.std.specs.List.{list_all}
use Rattle.std.specs.Char.{digit_char}
use Rattle.std.specs.Fmt.{decimal, digits, digits_onto, digit_glyph, signed_decimal}
use Rattle.std.proofs.lemmas.Bool.Decides.{nat_tests}
use Rattle.json.specs.Print.{escape_byte, escape_letter, escape, quoted}
use Rattle.serde_json.specs.Data.{Num, unsigned, negative, float, Data, null, boolean, number, string, array, object, Items, no_items, item, Members, no_members, member}
use Rattle.serde_json.specs.Written.{number_text, comma_if, compact_text, items_text, members_text}
use Rattle.run_check.specs.composition.declared.run.Run.{Run}
use Rattle.run_check.specs.RunText.{run_data, run_text}
use Rattle.run_exports.specs.PageText.{marked, head, tail, page_text}
use Rattle.run_exports.specs.Reading.{before, begins, behind_text}
use Rattle.run_exports.specs.PageReader.{Turn, reading, taking, passing, after_byte, unmarked, read_page}
use Rattle.run_exports.proofs.Cuts.{free, joined, before_mark}

-- ---- texts whose marks are taken away alone

abbrev mark_all : List ℕ → List ℕ
mark_all text = flat_map marked text

-- a text comes out as it was, whatever follows it
abbrev Settled : List ℕ → Type 0
Settled text = (rest : List ℕ) → unmarked reading (mark_all (text ++ rest)) ≡ text ++ unmarked reading (mark_all rest)

nothing_settled : Settled []
nothing_settled rest = refl

both_settled : (a b : List ℕ) → Settled a → Settled b → Settled (a ++ b)
both_settled a b f g rest =
    ap (λ t. unmarked reading (mark_all t)) (append_assoc a b rest)
    ∙ f (b ++ rest)
    ∙ ap (λ t. a ++ t) (g rest)
    ∙ sym (append_assoc a b (unmarked reading (mark_all rest)))

-- a byte that is no backslash
byte_settled : (b : ℕ) → nat_eq b 92 ≡ false → Settled (b ∷ [])
byte_settled b other rest = by (nat_eq b 60) refl
  where
    by : (t : Bool) → nat_eq b 60 ≡ t → unmarked reading (cond t (codes "\\u003c") (b ∷ []) ++ mark_all rest) ≡ b ∷ unmarked reading (mark_all rest)
    by true e = sym (ap (λ n. n ∷ unmarked reading (mark_all rest)) (eqb-true b 60 e))
    by false e = λ i. cond (other i && begins (codes "u003c") (mark_all rest)) (60 ∷ unmarked (passing 4) (mark_all rest)) (b ∷ unmarked (cond (other i) taking reading) (mark_all rest))

bytes_settled : (bs : List ℕ) → free 92 bs ≡ true → Settled bs
bytes_settled [] h = nothing_settled
bytes_settled (b ∷ bs) h = by (nat_eq b 92) refl h (λ g. bytes_settled bs g)
  where
    by : (t : Bool) → nat_eq b 92 ≡ t → not t && free 92 bs ≡ true → (free 92 bs ≡ true → Settled bs) → Settled (b ∷ bs)
    by true e g later = absurd (true≢false (sym g))
    by false e g later = both_settled (b ∷ []) bs (byte_settled b e) (later g)

-- ---- strings

-- a backslash and the letter of a short escape
abbrev is_letter : ℕ → Type 0
is_letter c = (nat_eq c 60 ≡ false) × (nat_eq c 117 ≡ false)

letter_settled : (c : ℕ) → is_letter c → Settled (92 ∷ c ∷ [])
letter_settled c h rest =
    (λ i. unmarked reading (92 ∷ (cond (h.0 i) (codes "\\u003c") (c ∷ []) ++ mark_all rest)))
    ∙ (λ i. cond (h.1 i && begins (codes "003c") (mark_all rest)) (60 ∷ unmarked (passing 4) (c ∷ mark_all rest)) (92 ∷ c ∷ unmarked reading (mark_all rest)))

-- the two digits of a control character
record AreDigits (high low : ℕ) : Type 0 where
  high_other : nat_eq high 51 ≡ false
  high_plain : nat_eq high 60 ≡ false
  high_byte : nat_eq high 92 ≡ false
  low_byte : nat_eq low 92 ≡ false

unit_settled : (high low : ℕ) → AreDigits high low → Settled (92 ∷ 117 ∷ 48 ∷ 48 ∷ high ∷ low ∷ [])
unit_settled high low h rest =
    (λ i. unmarked reading (92 ∷ 117 ∷ 48 ∷ 48 ∷ (cond (h.high_plain i) (codes "\\u003c") (high ∷ []) ++ mark_all (low ∷ rest))))
    ∙ (λ i. cond (h.high_other i && begins (codes "c") (mark_all (low ∷ rest))) (60 ∷ unmarked (passing 0) (mark_all (low ∷ rest)))
    (92 ∷ 117 ∷ 48 ∷ 48 ∷ unmarked reading (high ∷ mark_all (low ∷ rest))))
    ∙ sym (ap (λ b. 92 ∷ 117 ∷ 48 ∷ 48 ∷ unmarked reading (cond b (codes "\\u003c") (high ∷ []) ++ mark_all (low ∷ rest))) h.high_plain)
    ∙ ap (λ t. 92 ∷ 117 ∷ 48 ∷ 48 ∷ t) (byte_settled high h.high_byte (low ∷ rest) ∙ ap (λ t. high ∷ t) (byte_settled low h.low_byte rest))

control_digits : (x : ℕ) → x < 32 → AreDigits (digit_char (x / 16)) (digit_char (x % 16))
control_digits x h = record {
  high_other = grind (arith, nat_tests);
  high_plain = grind (arith, nat_tests);
  high_byte = grind (arith, nat_tests);
  low_byte = grind (arith, nat_tests);
}

-- what stands for a byte that has no short escape
long_escape : (x : ℕ) → nat_eq x 92 ≡ false → (b : Bool) → nat_lt x 32 ≡ b
    → Settled (cond b (92 ∷ 117 ∷ 48 ∷ 48 ∷ digit_char (x / 16) ∷ digit_char (x % 16) ∷ []) (x ∷ []))
long_escape x other true e = unit_settled (digit_char (x / 16)) (digit_char (x % 16)) (control_digits x (ltb-true x 32 e))
long_escape x other false e = byte_settled x other

-- a byte is one of those that have a short escape, or not
at_byte : (k x : ℕ) → Settled (escape_byte k) → (nat_eq x k ≡ false → Settled (escape_byte x)) → Settled (escape_byte x)
at_byte k x known other = by (nat_eq x k) refl
  where
    by : (b : Bool) → nat_eq x k ≡ b → Settled (escape_byte x)
    by true e = subst (λ n. Settled (escape_byte n)) (sym (eqb-true x k e)) known
    by false e = other e

escape_settled : (x : ℕ) → Settled (escape_byte x)
unfolding escape_byte
escape_settled x =
    at_byte 34 x (letter_settled 34 (refl, refl)) (λ a.
    at_byte 92 x (letter_settled 92 (refl, refl)) (λ b.
    at_byte 8 x (letter_settled 98 (refl, refl)) (λ c.
    at_byte 12 x (letter_settled 102 (refl, refl)) (λ d.
    at_byte 10 x (letter_settled 110 (refl, refl)) (λ e.
    at_byte 13 x (letter_settled 114 (refl, refl)) (λ f.
    at_byte 9 x (letter_settled 116 (refl, refl)) (λ g.
    subst Settled (sym (none x a b c d e f g)) (long_escape x b (nat_lt x 32) refl))))))))
  where
    none : (x : ℕ) → nat_eq x 34 ≡ false → nat_eq x 92 ≡ false → nat_eq x 8 ≡ false → nat_eq x 12 ≡ false → nat_eq x 10 ≡ false → nat_eq x 13 ≡ false → nat_eq x 9 ≡ false
        → escape_byte x ≡ cond (nat_lt x 32) (92 ∷ 117 ∷ 48 ∷ 48 ∷ digit_char (x / 16) ∷ digit_char (x % 16) ∷ []) (x ∷ [])
    none x a b c d e f g = rw (a, b, c, d, e, f, g) refl

string_settled : (s : List ℕ) → Settled (escape s)
string_settled [] = nothing_settled
string_settled (x ∷ xs) = both_settled (escape_byte x) (escape xs) (escape_settled x) (string_settled xs)

quoted_settled : (s : List ℕ) → Settled (quoted s)
quoted_settled s =
    both_settled (34 ∷ []) (escape s ++ 34 ∷ []) (bytes_settled (34 ∷ []) refl)
    (both_settled (escape s) (34 ∷ []) (string_settled s) (bytes_settled (34 ∷ []) refl))

-- ---- numbers

glyph_free : (n : ℕ) → nat_eq (digit_glyph false (n % 10)) 92 ≡ false
glyph_free n = grind (arith, nat_tests)

onto_free : (k n : ℕ) (acc : List ℕ) → free 92 acc ≡ true → free 92 (digits_onto k 10 false n acc) ≡ true
onto_free zero n acc h = h
onto_free (suc k) n acc h = by (n / 10 == 0) (onto_free k (n / 10) (digit_glyph false (n % 10) ∷ acc) front) front
  where
    front : not (nat_eq (digit_glyph false (n % 10)) 92) && free 92 acc ≡ true
    front = λ i. not (glyph_free n i) && h i

    by : (b : Bool) → free 92 (digits_onto k 10 false (n / 10) (digit_glyph false (n % 10) ∷ acc)) ≡ true → free 92 (digit_glyph false (n % 10) ∷ acc) ≡ true
        → free 92 (if b then digit_glyph false (n % 10) ∷ acc else digits_onto k 10 false (n / 10) (digit_glyph false (n % 10) ∷ acc)) ≡ true
    by true p q = q
    by false p q = p

decimal_settled : (n : ℕ) → Settled (decimal n)
unfolding digits
decimal_settled n = bytes_settled (decimal n) (onto_free 64 n [] refl)

signed_settled : (z : ℤ) → Settled (signed_decimal z)
signed_settled (pos n) = decimal_settled n
signed_settled (negsuc n) = both_settled (45 ∷ []) (decimal (suc n)) (bytes_settled (45 ∷ []) refl) (decimal_settled (suc n))

number_settled : (n : Num) → Settled (number_text n)
number_settled (unsigned n) = decimal_settled n
number_settled (negative z) = signed_settled z
number_settled (float x) = nothing_settled

-- ---- JSON

comma_settled : (later : Bool) → Settled (comma_if later)
comma_settled true = bytes_settled (44 ∷ []) refl
comma_settled false = nothing_settled

mutual
  data_settled : (d : Data) → Settled (compact_text d)
  data_settled null = bytes_settled (compact_text null) refl
  data_settled (boolean true) = bytes_settled (compact_text (boolean true)) refl
  data_settled (boolean false) = bytes_settled (compact_text (boolean false)) refl
  data_settled (number n) = number_settled n
  data_settled (string s) = quoted_settled s
  data_settled (array ds) = both_settled (91 ∷ []) (items_text false ds) (bytes_settled (91 ∷ []) refl) (items_settled false ds)
  data_settled (object ms) = both_settled (123 ∷ []) (members_text false ms) (bytes_settled (123 ∷ []) refl) (members_settled false ms)

  items_settled : (later : Bool) (ds : Items) → Settled (items_text later ds)
  items_settled later no_items = bytes_settled (93 ∷ []) refl
  items_settled later (item d ds) =
      both_settled (comma_if later) (compact_text d ++ items_text true ds) (comma_settled later)
      (both_settled (compact_text d) (items_text true ds) (data_settled d) (items_settled true ds))

  members_settled : (later : Bool) (ms : Members) → Settled (members_text later ms)
  members_settled later no_members = bytes_settled (125 ∷ []) refl
  members_settled later (member k d ms) =
      both_settled (comma_if later) (quoted k ++ 58 ∷ (compact_text d ++ members_text true ms)) (comma_settled later)
      (both_settled (quoted k) (58 ∷ (compact_text d ++ members_text true ms)) (quoted_settled k)
      (both_settled (58 ∷ []) (compact_text d ++ members_text true ms) (bytes_settled (58 ∷ []) refl)
      (both_settled (compact_text d) (members_text true ms) (data_settled d) (members_settled true ms))))

-- ---- pages

run_settled : (run : Run) → Settled (run_text run)
unfolding run_text
run_settled run = both_settled (compact_text (run_data run)) (codes "\n") (data_settled (run_data run)) (bytes_settled (codes "\n") refl)

-- marked, a text has no `<`
mark_free : (text : List ℕ) → free 60 (mark_all text) ≡ true
mark_free [] = refl
mark_free (b ∷ bs) = joined (λ n. not (nat_eq n 60)) (marked b) (mark_all bs) (by (nat_eq b 60) refl) (mark_free bs)
  where
    by : (t : Bool) → nat_eq b 60 ≡ t → free 60 (cond t (codes "\\u003c") (b ∷ [])) ≡ true
    by true e = refl
    by false e = λ i. not (e i) && true

tail_begins : tail ≡ 60 ∷ drop 1 tail
unfolding tail
tail_begins = refl

behind_head : (inside : List ℕ) → behind_text (codes " id=\"run\">\n") (head ++ inside) ≡ inside
unfolding head
behind_head inside = refl

pub page_back : (run : Run) → read_page (page_text run) ≡ run_text run
page_back run =
    ap (λ t. unmarked reading (before 60 (behind_text (codes " id=\"run\">\n") t))) (append_assoc head (mark_all (run_text run)) tail)
    ∙ ap (λ t. unmarked reading (before 60 t)) (behind_head (mark_all (run_text run) ++ tail))
    ∙ ap (λ t. unmarked reading (before 60 (mark_all (run_text run) ++ t))) tail_begins
    ∙ ap (unmarked reading) (before_mark 60 (mark_all (run_text run)) (drop 1 tail) (mark_free (run_text run)))
    ∙ ap (λ t. unmarked reading (mark_all t)) (sym (append-nil (run_text run)))
    ∙ run_settled run []
    ∙ append-nil (run_text run)
