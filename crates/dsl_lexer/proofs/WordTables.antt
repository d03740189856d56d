-- What a table of words has for a text: only its words of the same length and with the same first byte matter.
use Rattle.std.proofs.Common.{◌≡◌, ◌∙◌, refl, sym, ap, ℕ, zero, suc, ◌+◌, ◌<◌, ◌≤◌, Bool, true, false, cond, List, [], ◌∷◌, ◌++◌, Option, Some, None, eqb, arith, length, map, drop, get_or, true≢false, Bor}
use Rattle.std.specs.Option.{option_eq, option_map}
use Rattle.std.specs.Prelude.{◌==◌, option_copied, slice_get, Decides}
use Rattle.std.specs.List.{list_all}
use Rattle.std.specs.Slice.{IsItemAt}
use Rattle.std.specs.Str.{bytes_eq}
use Rattle.std.proofs.lemmas.Bool.{and_parts, cond-false, eqb-true, false_from_ne_true}
use Rattle.std.proofs.lemmas.Option.{same_Some, slice_get-map, slice_get_read}
use Rattle.std.proofs.lemmas.Bool.Decides.{nat_tests}
use Rattle.std.proofs.lemmas.List.{drop_more, length-map}
use Rattle.std.proofs.lemmas.Slice.Eq.{bytes_eq-Decides}
use Rattle.dsl_lexer.specs.Kinds.{all_words, is_by_length}
use Rattle.dsl_lexer.specs.Shapes.{entry}

-- Words by their lengths

module _ {K : Type 0} (text : List ℕ) where
  -- words of another length have nothing for a text
  other_words : (n : ℕ) (words : List (List ℕ × K)) → (length text ≡ n → ⊥) → list_all (λ e. length e.0 == n) words ≡ true → entry text words ≡ None
  other_words n [] other all = refl
  other_words n ((word, kind) ∷ more) other all =
      let parts = and_parts (length word == n) (list_all (λ e. length e.0 == n) more) all in
      cond-false (bytes_eq text word) (Some kind) (entry text more) (false_from_ne_true (bytes_eq text word) (λ same.
      other (ap length ((bytes_eq-Decides text word).0 same) ∙ eqb-true (length word) n parts.0)))
      ∙ other_words n more other parts.1

  -- words that have nothing for a text can be left out before others, and after them
  pass : (words others : List (List ℕ × K)) → entry text words ≡ None → entry text (words ++ others) ≡ entry text others
  pass [] others none = refl
  pass ((word, kind) ∷ more) others none = by (bytes_eq text word) none (pass more others)
    where
      by : (b : Bool) → cond b (Some kind) (entry text more) ≡ None → (entry text more ≡ None → entry text (more ++ others) ≡ entry text others) →
          cond b (Some kind) (entry text (more ++ others)) ≡ entry text others
      by true e later = absurd (cc)
      by false e later = later e

  stop : (words others : List (List ℕ × K)) → entry text others ≡ None → entry text (words ++ others) ≡ entry text words
  stop [] others none = none
  stop ((word, kind) ∷ more) others none = ap (λ rest. cond (bytes_eq text word) (Some kind) rest) (stop more others none)

  -- rows of longer words have nothing for a text
  later_rows : (n : ℕ) (rows : List (List (List ℕ × K))) → length text < n → is_by_length n rows ≡ true → entry text (all_words rows) ≡ None
  later_rows n [] less by_length = refl
  later_rows n (row ∷ more) less by_length =
      let parts = and_parts (list_all (λ e. length e.0 == n) row) (is_by_length (n + 1) more) by_length in
      pass row (all_words more) (other_words n row (λ same. omega (arith, same, less)) parts.0) ∙ later_rows (n + 1) more (omega (arith, less)) parts.1

  -- a text that is longer than the words of all rows isn't among them
  pub longer_text : (n : ℕ) (rows : List (List (List ℕ × K))) → is_by_length n rows ≡ true → n + length rows ≤ length text → entry text (all_words rows) ≡ None
  longer_text n [] by_length long = refl
  longer_text n (row ∷ more) by_length long =
      let parts = and_parts (list_all (λ e. length e.0 == n) row) (is_by_length (n + 1) more) by_length in
      pass row (all_words more) (other_words n row (λ same. omega (arith, same, long)) parts.0) ∙ longer_text (n + 1) more parts.1 (omega (arith, long))

  -- rows of words have for a text what the row of its length has
  pub entry_by_length : (n i : ℕ) (rows : List (List (List ℕ × K))) (row : List (List ℕ × K)) → is_by_length n rows ≡ true → length text ≡ n + i → slice_get rows i ≡ Some row →
      entry text (all_words rows) ≡ entry text row
  entry_by_length n i [] row by_length long at = absurd (cc)
  entry_by_length n zero (first ∷ more) row by_length long at =
      let parts = and_parts (list_all (λ e. length e.0 == n) first) (is_by_length (n + 1) more) by_length in
      stop first (all_words more) (later_rows (n + 1) more (omega (arith, long)) parts.1) ∙ ap (entry text) (same_Some first row at)
  entry_by_length n (suc i) (first ∷ more) row by_length long at =
      let parts = and_parts (list_all (λ e. length e.0 == n) first) (is_by_length (n + 1) more) by_length in
      pass first (all_words more) (other_words n first (λ same. omega (arith, same, long)) parts.0)
      ∙ entry_by_length (n + 1) i more row parts.1 (omega (arith, long)) at

-- The rows of a table, and the words of a row that are left

-- a row of the program's own table
abbrev pub seen : {K : Type 0} → Bor (List ℕ) × K → List ℕ × K
seen e = (e.0.now, e.1)

-- the program's own table has for a text what its row of the text's length has
pub row_of_length : {K : Type 0} (text : List ℕ) (table : List (Bor (List (Bor (List ℕ) × K)))) (row : Bor (Bor (List (Bor (List ℕ) × K)))) →
    is_by_length 0 (map (λ r. map seen r.now) table) ≡ true → IsItemAt table (length text) (Some row) →
    entry text (map seen row.now.now) ≡ entry text (all_words (map (λ r. map seen r.now) table))
row_of_length text table row by_length at =
    let here : slice_get table (length text) ≡ Some row.now = slice_get_read table (length table) (length text) row.now refl at.3.0 (at.4 (omega arith) row.now) in
    sym (entry_by_length text 0 (length text) (map (λ r. map seen r.now) table) (map seen row.now.now) by_length (omega arith)
    (slice_get-map (λ r. map seen r.now) table (length text) ∙ ap (option_map (λ r. map seen r.now)) here))

pub no_row_of_length : {K : Type 0} (text : List ℕ) (table : List (Bor (List (Bor (List ℕ) × K)))) → is_by_length 0 (map (λ r. map seen r.now) table) ≡ true →
    length table ≤ length text → entry text (all_words (map (λ r. map seen r.now) table)) ≡ None
no_row_of_length text table by_length long =
    longer_text text 0 (map (λ r. map seen r.now) table) by_length (omega (arith, long, length-map table (λ r. map seen r.now)))

-- the next word isn't the text
pub other_next : {K : Type 0} (text : List ℕ) (words : List (Bor (List ℕ) × K)) (i : ℕ) (d : Bor (List ℕ) × K) → i < length words →
    bytes_eq text (get_or words i d).0.now ≡ false → entry text (map seen (drop (i + 1) words)) ≡ entry text (map seen (drop i words))
other_next text words i d lt other =
    sym (ap (λ xs. entry text (map seen xs)) (drop_more words i d lt)
    ∙ cond-false (bytes_eq text (get_or words i d).0.now) (Some (get_or words i d).1) (entry text (map seen (drop (i + 1) words))) other)

-- Words with another first byte

abbrev number_in : Option ℕ → ℕ
number_in None = 0
number_in (Some n) = n

same_number : (n m : ℕ) → n ≡ m → eqb n m ≡ true
same_number n m e = grind (arith, nat_tests)

same_first : (a b : Option (Bor ℕ)) → option_copied a ≡ option_copied b → option_eq (λ x y. eqb x.now y.now) a b ≡ true
same_first None None e = refl
same_first None (Some y) e = cc
same_first (Some x) None e = cc
same_first (Some x) (Some y) e = same_number x.now y.now (ap number_in e)

-- a text with another first byte isn't the word
pub other_first : (text word : List ℕ) (a b : Option (Bor ℕ)) → option_copied a ≡ slice_get word 0 → option_copied b ≡ slice_get text 0 →
    option_eq (λ x y. eqb x.now y.now) a b ≡ false → bytes_eq text word ≡ false
other_first text word a b of_word of_text other = by (bytes_eq text word) (bytes_eq-Decides text word)
  where
    by : (c : Bool) → Decides c (text ≡ word) → c ≡ false
    by true d = absurd (true≢false (sym (same_first a b (of_word ∙ ap (λ w. slice_get w 0) (sym (d.0 refl)) ∙ sym of_text)) ∙ other))
    by false d = refl
