-- What holds of the tokens of each piece holds of all tokens of a source.
use Rattle.std.proofs.Common.{◌≡◌, ℕ, suc, ◌+◌, ◌≤◌, Bool, true, false, cond, ◌&&◌, not, Option, Some, None, List, [], ◌∷◌, ◌++◌, length, take, drop, map, refl, ap, sym, ◌∙◌, arith}
use Rattle.std.specs.Prelude.{nat_lt, nat_le, filter, ◌==◌, is_some, codes}
use Rattle.std.specs.Str.{bytes_eq}
use Rattle.std.specs.Option.{option_map}
use Rattle.std.specs.List.{list_all, take_while, prefix_len}
use Rattle.std.proofs.lemmas.Bool.{cond_both, and_parts, true≢false}
use Rattle.std.proofs.lemmas.List.{length-append}
use Rattle.std.proofs.lemmas.List.Elements.{filter-append}
use Rattle.std.proofs.lemmas.List.Folds.{list_all-append}
use Rattle.name_scope.specs.dsl_tree.declared.token.Token.{Token}
use Rattle.name_scope.specs.dsl_tree.declared.token.TokenKind.{TokenKind}
use Rattle.name_scope.specs.dsl_tree.declared.token.TokenKind.TheVariants.{Newline, Indent, Dedent, End, Mark}
use Rattle.name_scope.specs.dsl_tree.declared.token.MarkKind.{MarkKind}
use Rattle.dsl_lexer.specs.declared.shape.Shape.{Shape}
use Rattle.dsl_lexer.specs.declared.words.LanguageWord.{LanguageWord}
use Rattle.dsl_lexer.specs.declared.words.LanguageWord.TheVariants.{LeftOut, Reserved}
use Rattle.dsl_lexer.specs.Shapes.{entry, marks}
use Rattle.dsl_lexer.specs.Kinds.{kind_of, word_or_name, words, number_kind, decimal_kind, hexadecimal_kind, fraction, unit_name, is_word}
use Rattle.dsl_lexer.specs.Bytes.{is_digit, is_hexadecimal_digit, place_at}
use Rattle.dsl_lexer.specs.Pieces.{Piece, reach, Cut}
use Rattle.dsl_lexer.specs.Layout.{opened, line, width, widths, brackets, has_lexeme, begins_line, ends_line, is_widest, blocks, newline, own_token, brought, tokens, last_tokens, placed, OffsetToken}
use Rattle.dsl_lexer.specs.SourceTokens.{TokensCut}
use Rattle.dsl_lexer.proofs.Cutting.{some_text, cut_length}
use Rattle.loaded_programs.specs.TokenLaws.{has_few_digits, is_no_word, is_string, all_kinds, count_strings, NumbersAreShort, NamesAreNoWords, StringsAreFew}
use Rattle.loaded_programs.proofs.Booleans.{both}
use Rattle.loaded_programs.proofs.SourceNumbers.{IsShortKind, number_short}

-- tokens that all pass a test
abbrev Pass : (TokenKind → Bool) → List OffsetToken → Type 0
Pass test os = list_all (λ (o : OffsetToken). test o.1) os ≡ true

-- the token of a piece passes, if it has one
abbrev OwnPasses : (TokenKind → Bool) → Option TokenKind → Type 0
OwnPasses test None = Unit {0}
OwnPasses test (Some kind) = test kind ≡ true

module _ (test : TokenKind → Bool) where
  pass_append : (xs ys : List OffsetToken) → Pass test xs → Pass test ys → Pass test (xs ++ ys)
  pass_append xs ys h k = list_all-append (λ (o : OffsetToken). test o.1) xs ys ∙ both _ _ h k

  pass_same : (kind : TokenKind) → test kind ≡ true → {A : Type 0} (at : ℕ) (ws : List A) → Pass test (map (λ v. (at, kind)) ws)
  pass_same kind passes at [] = refl
  pass_same kind passes at (w ∷ ws) = both (test kind) _ passes (pass_same kind passes at ws)

  pass_kinds : (kind : TokenKind) → test kind ≡ true → {A : Type 0} (at : ℕ) (ws : List A) → Pass test (map (λ k. (at, k)) (map (λ v. kind) ws))
  pass_kinds kind passes at [] = refl
  pass_kinds kind passes at (w ∷ ws) = both (test kind) _ passes (pass_kinds kind passes at ws)

-- a test that NEWLINE, INDENT, DEDENT and END pass
pub record PassesLayout (test : TokenKind → Bool) : Type 0 where
  pub newlines : test Newline ≡ true
  pub indents : test Indent ≡ true
  pub dedents : test Dedent ≡ true
  pub ends : test End ≡ true

module _ (test : TokenKind → Bool) (l : PassesLayout test) where
  pass_blocks : (at w : ℕ) (ws : List ℕ) → Pass test (map (λ k. (at, k)) (blocks w ws))
  pass_blocks at w ws =
      cond_both (is_widest w ws) (Indent ∷ []) (map (λ v. Dedent) (filter (λ v. nat_lt w v) ws)) (λ ks. Pass test (map (λ k. (at, k)) ks))
      (λ _. both (test Indent) true l.indents refl) (λ _. pass_kinds test Dedent l.dedents at (filter (λ v. nat_lt w v) ws))

  pass_newline : (pieces : List Piece) → Pass test (newline pieces)
  pass_newline pieces = cond_both (has_lexeme (line pieces)) _ [] (Pass test) (λ _. both (test Newline) true l.newlines refl) (λ _. refl)

  pass_begun : (p : Piece) (before : List Piece) → Pass test (cond (begins_line p before) (map (λ kind. (p.at, kind)) (blocks (width (line before)) (opened (widths before)))) [])
  pass_begun p before = cond_both (begins_line p before) _ [] (Pass test) (λ _. pass_blocks p.at (width (line before)) (opened (widths before))) (λ _. refl)

  pass_ended : (p : Piece) (before : List Piece) → Pass test (cond (ends_line p before) (newline before) [])
  pass_ended p before = cond_both (ends_line p before) (newline before) [] (Pass test) (λ _. pass_newline before) (λ _. refl)

  pass_last : (pieces : List Piece) → Pass test (last_tokens pieces)
  pass_last pieces =
      pass_append test (cond (brackets pieces == 0) (newline pieces) []) _ (cond_both (brackets pieces == 0) (newline pieces) [] (Pass test) (λ _. pass_newline pieces) (λ _. refl))
      (pass_append test (map (λ v. (reach pieces, Dedent)) (opened (widths pieces))) ((reach pieces, End) ∷ []) (pass_same test Dedent l.dedents (reach pieces) (opened (widths pieces))) (both (test End) true l.ends refl))

  pass_own : (at : ℕ) (o : Option TokenKind) → OwnPasses test o → Pass test (own_token at o)
  pass_own at None h = refl
  pass_own at (Some kind) h = both (test kind) true h refl

  pass_pieces : ((s : Shape) (text : List ℕ) → OwnPasses test (kind_of s text)) → (pieces : List Piece) → Pass test (tokens pieces)
  pass_pieces own [] = refl
  pass_pieces own (p ∷ before) =
      pass_append test (tokens before) (brought p before) (pass_pieces own before)
      (pass_append test _ _ (pass_begun p before) (pass_append test (own_token p.at (kind_of p.shape p.text)) _ (pass_own p.at (kind_of p.shape p.text) (own p.shape p.text)) (pass_ended p before)))

placed_kinds : (test : TokenKind → Bool) (file : ℕ) (bytes : List ℕ) (n : ℕ) (os : List OffsetToken) → all_kinds test (placed file bytes n os) ≡ list_all (λ (o : OffsetToken). test o.1) os
placed_kinds test file bytes n [] = refl
placed_kinds test file bytes n (o ∷ os) = ap (λ b. test o.1 && b) (placed_kinds test file bytes (n + 1) os)

-- a test that each piece passes
pub all_pass : (test : TokenKind → Bool) → PassesLayout test → ((s : Shape) (text : List ℕ) → OwnPasses test (kind_of s text))
    → (file : ℕ) (bytes : List ℕ) (found : List Token) → TokensCut file bytes found → all_kinds test found ≡ true
all_pass test l own file bytes found t =
    ap (all_kinds test) t.tokens ∙ placed_kinds test file bytes 0 (tokens t.pieces ++ last_tokens t.pieces)
    ∙ pass_append test (tokens t.pieces) (last_tokens t.pieces) (pass_pieces test l own t.pieces) (pass_last test l t.pieces)

-- ---- numbers

mark_passes : (test : TokenKind → Bool) → ((k : MarkKind) → test (Mark k) ≡ true) → (o : Option MarkKind) → OwnPasses test (option_map Mark o)
mark_passes test h None = tt
mark_passes test h (Some k) = h k

name_short : (w : Option LanguageWord) (text : List ℕ) → has_few_digits (word_or_name w text) ≡ true
name_short (Some (Reserved w)) text = refl
name_short (Some (LeftOut w)) text = refl
name_short None text = refl

short_own : (o : Option TokenKind) → IsShortKind o → OwnPasses has_few_digits o
short_own None h = tt
short_own (Some kind) h = h

piece_short : (s : Shape) (text : List ℕ) → OwnPasses has_few_digits (kind_of s text)
piece_short Shape.MarkShape text = mark_passes has_few_digits (λ k. refl) (entry text marks)
piece_short Shape.NameShape text = name_short (entry text words) text
piece_short Shape.NumberShape text = short_own (number_kind text) (number_short text)
piece_short Shape.StringShape text = refl
piece_short Shape.Space text = tt
piece_short Shape.Tab text = tt
piece_short Shape.Comment text = tt
piece_short Shape.LineEnd text = tt
piece_short Shape.Joint text = tt

pub numbers_are_short : NumbersAreShort
numbers_are_short = all_pass has_few_digits (record { newlines = refl; indents = refl; dedents = refl; ends = refl }) piece_short

-- ---- names

name_own : (text : List ℕ) (w : Option LanguageWord) → entry text words ≡ w → is_no_word (word_or_name w text) ≡ true
name_own text (Some (Reserved w)) e = refl
name_own text (Some (LeftOut w)) e = refl
name_own text None e = ap (λ o. not (is_some o)) e

number_own : (whole part unit : List ℕ) → OwnPasses is_no_word (decimal_kind whole part unit)
number_own whole part [] = cond_both (nat_le (length whole + length part) 18) _ None (OwnPasses is_no_word) (λ _. refl) (λ _. tt)
number_own whole part (b ∷ unit) = cond_both (nat_le (length whole + length part) 18 && not (is_word (b ∷ unit))) _ None (OwnPasses is_no_word) (λ _. refl) (λ _. tt)

hexadecimal_own : (digits : List ℕ) → OwnPasses is_no_word (hexadecimal_kind digits)
hexadecimal_own digits = cond_both (list_all is_hexadecimal_digit digits && nat_le 1 (length digits) && nat_le (length digits) 14) _ None (OwnPasses is_no_word) (λ _. refl) (λ _. tt)

numbers_own : (text : List ℕ) → OwnPasses is_no_word (number_kind text)
numbers_own text =
    cond_both (bytes_eq (take 2 text) (codes "0x")) (hexadecimal_kind (drop 2 text)) _ (OwnPasses is_no_word) (λ _. hexadecimal_own (drop 2 text))
    (λ _. number_own (take_while is_digit text) (fraction (drop (prefix_len is_digit text) text)) (unit_name (drop (prefix_len is_digit text) text)))

piece_named : (s : Shape) (text : List ℕ) → OwnPasses is_no_word (kind_of s text)
piece_named Shape.MarkShape text = mark_passes is_no_word (λ k. refl) (entry text marks)
piece_named Shape.NameShape text = name_own text (entry text words) refl
piece_named Shape.NumberShape text = numbers_own text
piece_named Shape.StringShape text = refl
piece_named Shape.Space text = tt
piece_named Shape.Tab text = tt
piece_named Shape.Comment text = tt
piece_named Shape.LineEnd text = tt
piece_named Shape.Joint text = tt

pub names_are_no_words : NamesAreNoWords
names_are_no_words = all_pass is_no_word (record { newlines = refl; indents = refl; dedents = refl; ends = refl }) piece_named

-- ---- strings

abbrev no_string : TokenKind → Bool
no_string kind = not (is_string kind)

abbrev strings : List OffsetToken → ℕ
strings os = length (filter (λ (o : OffsetToken). is_string o.1) os)

strings_append : (xs ys : List OffsetToken) → strings (xs ++ ys) ≡ strings xs + strings ys
strings_append xs ys = ap length (filter-append (λ (o : OffsetToken). is_string o.1) xs ys) ∙ length-append (filter (λ (o : OffsetToken). is_string o.1) xs) (filter (λ (o : OffsetToken). is_string o.1) ys)

none_there : (os : List OffsetToken) → Pass no_string os → strings os ≡ 0
none_there [] h = refl
none_there (o ∷ os) h = let parts = and_parts (not (is_string o.1)) _ h in by (is_string o.1) parts.0 (none_there os parts.1)
  where
    by : (b : Bool) → not b ≡ true → strings os ≡ 0 → length (cond b (o ∷ filter (λ (o : OffsetToken). is_string o.1) os) (filter (λ (o : OffsetToken). is_string o.1) os)) ≡ 0
    by true e rest = absurd (true≢false (sym e))
    by false e rest = rest

own_few : (at : ℕ) (o : Option TokenKind) → strings (own_token at o) ≤ 1
own_few at None = omega arith
own_few at (Some kind) = by (is_string kind)
  where
    by : (b : Bool) → length {A = OffsetToken} (cond b ((at, kind) ∷ []) []) ≤ 1
    by true = omega arith
    by false = omega arith

plain : PassesLayout no_string
plain = record { newlines = refl; indents = refl; dedents = refl; ends = refl }

brought_few : (p : Piece) (before : List Piece) → strings (brought p before) ≤ 1
brought_few p before =
    let first : List OffsetToken = cond (begins_line p before) (map (λ kind. (p.at, kind)) (blocks (width (line before)) (opened (widths before)))) [] in
    let own = own_token p.at (kind_of p.shape p.text) in
    let last = cond (ends_line p before) (newline before) [] in
    let a = none_there first (pass_begun no_string plain p before) in
    let b = own_few p.at (kind_of p.shape p.text) in
    let c = none_there last (pass_ended no_string plain p before) in
    let d = strings_append first (own ++ last) in
    let e = strings_append own last in
    omega (arith, a, b, c, d, e)

tokens_few : (bytes : List ℕ) (pieces : List Piece) (rest : List ℕ) → Cut bytes pieces rest → strings (tokens pieces) ≤ reach pieces
tokens_few bytes [] rest cut = omega arith
tokens_few bytes (p ∷ before) rest cut =
    let earlier = tokens_few bytes before (p.text ++ rest) cut.1 in
    let some = some_text p.shape p.text cut.0.shape in
    let few = brought_few p before in
    let e = strings_append (tokens before) (brought p before) in
    omega (arith, earlier, some, few, e)

placed_strings : (file : ℕ) (bytes : List ℕ) (n : ℕ) (os : List OffsetToken) → count_strings (placed file bytes n os) ≡ strings os
placed_strings file bytes n [] = refl
placed_strings file bytes n (o ∷ os) = by (is_string o.1) (placed_strings file bytes (n + 1) os)
  where
    by : (b : Bool) → count_strings (placed file bytes (n + 1) os) ≡ strings os
        → length (cond b (record { place = place_at file bytes o.0 n; kind = o.1 } ∷ filter (λ (t : Token). is_string t.kind) (placed file bytes (n + 1) os)) (filter (λ (t : Token). is_string t.kind) (placed file bytes (n + 1) os)))
        ≡ length (cond b (o ∷ filter (λ (o : OffsetToken). is_string o.1) os) (filter (λ (o : OffsetToken). is_string o.1) os))
    by true e = ap suc e
    by false e = e

pub strings_are_few : StringsAreFew
strings_are_few file bytes found t =
    let all = tokens t.pieces ++ last_tokens t.pieces in
    let same : count_strings found ≡ strings all = ap count_strings t.tokens ∙ placed_strings file bytes 0 all in
    let parts = strings_append (tokens t.pieces) (last_tokens t.pieces) in
    let none = none_there (last_tokens t.pieces) (pass_last no_string plain t.pieces) in
    let few = tokens_few bytes t.pieces [] t.cut in
    let whole : length bytes ≡ reach t.pieces + 0 = cut_length bytes t.pieces [] t.cut in
    omega (arith, same, parts, none, few, whole)
