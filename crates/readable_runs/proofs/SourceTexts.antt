-- The names of a source are letters, digits and `_`, and its strings are UTF-8.
use Rattle.std.proofs.Common.{◌≡◌, ◌∙◌, refl, ap, ℕ, ◌+◌, ◌≤◌, Bool, true, false, cond, ◌&&◌, ◌||◌, not, Option, Some, None, List, [], ◌∷◌, ◌++◌, map, length, IsUtf8, arith}
use Rattle.std.specs.Prelude.{nat_le, nat_lt, filter, ◌==◌, codes, take, drop}
use Rattle.std.specs.Str.{bytes_eq, is_utf8}
use Rattle.std.specs.Option.{option_map}
use Rattle.std.specs.List.{list_all, take_while, prefix_len}
use Rattle.std.proofs.lemmas.Bool.{cond_both, and_parts}
use Rattle.std.proofs.lemmas.List.Folds.{list_all-append}
use Rattle.std.proofs.lemmas.Str.{is_utf8-from_IsUtf8}
use Rattle.osc_base.specs.PathTexts.{begins_name, continues_name, is_name}
use Rattle.source_scenes.specs.dsl_tree.declared.token.Token.{Token}
use Rattle.source_scenes.specs.dsl_tree.declared.token.TokenKind.{TokenKind}
use Rattle.source_scenes.specs.dsl_tree.declared.token.TokenKind.TheVariants.{Indent, Dedent, End, Mark}
use Rattle.source_scenes.specs.dsl_tree.declared.token.MarkKind.{MarkKind}
use Rattle.source_scenes.specs.dsl_lexer.declared.shape.Shape.{Shape}
use Rattle.source_scenes.specs.dsl_lexer.declared.words.LanguageWord.{LanguageWord}
use Rattle.source_scenes.specs.dsl_lexer.declared.words.LanguageWord.TheVariants.{LeftOut, Reserved}
use Rattle.source_scenes.specs.dsl_lexer.Bytes.{is_digit, is_hexadecimal_digit, is_name_byte, is_name_start}
use Rattle.source_scenes.specs.dsl_lexer.Shapes.{IsName, IsShape, entry, marks}
use Rattle.source_scenes.specs.dsl_lexer.Kinds.{kind_of, word_or_name, words, number_kind, decimal_kind, hexadecimal_kind, fraction, unit_name, is_word, string_chars}
use Rattle.source_scenes.specs.dsl_lexer.Pieces.{Piece, reach, Cut}
use Rattle.source_scenes.specs.dsl_lexer.Layout.{opened, line, width, widths, brackets, has_lexeme, begins_line, ends_line, is_widest, blocks, newline, own_token, brought, tokens, last_tokens, placed, OffsetToken}
use Rattle.source_scenes.specs.dsl_lexer.SourceTokens.{TokensCut}
use Rattle.source_scenes.proofs.of_loaded_programs.Booleans.{both}
use Rattle.source_scenes.proofs.of_dsl_lexer.Cutting.{cut_length}
use Rattle.source_scenes.proofs.of_dsl_lexer.Texts.{string_utf8, valid_all}

-- a name of letters, digits and `_`, and a string that is UTF-8
abbrev pub is_readable : TokenKind → Bool
is_readable (TokenKind.Name text) = is_name text
is_readable (TokenKind.Chars text) = is_utf8 text
is_readable _ = true

abbrev Pass : List OffsetToken → Type 0
Pass os = list_all (λ (o : OffsetToken). is_readable o.1) os ≡ true

pass_append : (xs ys : List OffsetToken) → Pass xs → Pass ys → Pass (xs ++ ys)
pass_append xs ys h k = list_all-append (λ (o : OffsetToken). is_readable o.1) xs ys ∙ both _ _ h k

pass_dedents : {A : Type 0} (at : ℕ) (ws : List A) → Pass (map (λ v. (at, Dedent)) ws)
pass_dedents at [] = refl
pass_dedents at (w ∷ ws) = pass_dedents at ws

pass_kinds : {A : Type 0} (at : ℕ) (ws : List A) → Pass (map (λ k. (at, k)) (map (λ v. Dedent) ws))
pass_kinds at [] = refl
pass_kinds at (w ∷ ws) = pass_kinds at ws

pass_blocks : (at w : ℕ) (ws : List ℕ) → Pass (map (λ k. (at, k)) (blocks w ws))
pass_blocks at w ws =
    cond_both (is_widest w ws) (Indent ∷ []) (map (λ v. Dedent) (filter (λ v. nat_lt w v) ws)) (λ ks. Pass (map (λ k. (at, k)) ks))
    (λ _. refl) (λ _. pass_kinds at (filter (λ v. nat_lt w v) ws))

pass_newline : (pieces : List Piece) → Pass (newline pieces)
pass_newline pieces = cond_both (has_lexeme (line pieces)) _ [] Pass (λ _. refl) (λ _. refl)

pass_begun : (p : Piece) (before : List Piece) → Pass (cond (begins_line p before) (map (λ kind. (p.at, kind)) (blocks (width (line before)) (opened (widths before)))) [])
pass_begun p before = cond_both (begins_line p before) _ [] Pass (λ _. pass_blocks p.at (width (line before)) (opened (widths before))) (λ _. refl)

pass_ended : (p : Piece) (before : List Piece) → Pass (cond (ends_line p before) (newline before) [])
pass_ended p before = cond_both (ends_line p before) (newline before) [] Pass (λ _. pass_newline before) (λ _. refl)

pass_last : (pieces : List Piece) → Pass (last_tokens pieces)
pass_last pieces =
    pass_append (cond (brackets pieces == 0) (newline pieces) []) _ (cond_both (brackets pieces == 0) (newline pieces) [] Pass (λ _. pass_newline pieces) (λ _. refl))
    (pass_append (map (λ v. (reach pieces, Dedent)) (opened (widths pieces))) ((reach pieces, End) ∷ []) (pass_dedents (reach pieces) (opened (widths pieces))) refl)

-- ---- the token of a piece

-- the token of a piece passes, if it has one
abbrev OwnPasses : Option TokenKind → Type 0
OwnPasses None = Unit {0}
OwnPasses (Some kind) = is_readable kind ≡ true

mark_passes : (o : Option MarkKind) → OwnPasses (option_map Mark o)
mark_passes None = tt
mark_passes (Some k) = refl

-- the two tests of a byte of a name agree
same_start : (b : ℕ) → is_name_start b ≡ true → begins_name b ≡ true
same_start b h = by (nat_le 97 b && nat_le b 122) (nat_le 65 b && nat_le b 90) (b == 95) h
  where
    by : (s t u : Bool) → (s || t) || u ≡ true → t || (s || u) ≡ true
    by s true u h = refl
    by true false u h = refl
    by false false u h = h

or_same : (a b c : Bool) → (a ≡ true → b ≡ true) → a || c ≡ true → b || c ≡ true
or_same true b c f h = rw (f refl) refl
or_same false true c f h = refl
or_same false false c f h = h

same_byte : (b : ℕ) → is_name_byte b ≡ true → continues_name b ≡ true
same_byte b h = or_same (is_name_start b) (begins_name b) (is_digit b) (same_start b) h

same_bytes : (bs : List ℕ) → list_all is_name_byte bs ≡ true → list_all continues_name bs ≡ true
same_bytes [] h = refl
same_bytes (b ∷ bs) h = let parts = and_parts (is_name_byte b) (list_all is_name_byte bs) h in both _ _ (same_byte b parts.0) (same_bytes bs parts.1)

name_is : (text : List ℕ) → IsName text → is_name text ≡ true
name_is [] h = absurd h
name_is (b ∷ bs) h = both _ _ (same_start b h.0) (same_bytes bs h.1)

name_own : (text : List ℕ) → is_name text ≡ true → (w : Option LanguageWord) → is_readable (word_or_name w text) ≡ true
name_own text h (Some (Reserved w)) = refl
name_own text h (Some (LeftOut w)) = refl
name_own text h None = h

number_own : (whole part unit : List ℕ) → OwnPasses (decimal_kind whole part unit)
number_own whole part [] = cond_both (nat_le (length whole + length part) 18) _ None OwnPasses (λ _. refl) (λ _. tt)
number_own whole part (b ∷ unit) = cond_both (nat_le (length whole + length part) 18 && not (is_word (b ∷ unit))) _ None OwnPasses (λ _. refl) (λ _. tt)

hexadecimal_own : (digits : List ℕ) → OwnPasses (hexadecimal_kind digits)
hexadecimal_own digits = cond_both (list_all is_hexadecimal_digit digits && nat_le 1 (length digits) && nat_le (length digits) 14) _ None OwnPasses (λ _. refl) (λ _. tt)

numbers_own : (text : List ℕ) → OwnPasses (number_kind text)
numbers_own text =
    cond_both (bytes_eq (take 2 text) (codes "0x")) (hexadecimal_kind (drop 2 text)) _ OwnPasses (λ _. hexadecimal_own (drop 2 text))
    (λ _. number_own (take_while is_digit text) (fraction (drop (prefix_len is_digit text) text)) (unit_name (drop (prefix_len is_digit text) text)))

pass_own : (at : ℕ) (o : Option TokenKind) → OwnPasses o → Pass (own_token at o)
pass_own at None h = refl
pass_own at (Some kind) h = both (is_readable kind) true h refl

-- ---- all tokens

module _ (bytes : List ℕ) (utf8 : IsUtf8 bytes) where
  piece_own : (text : List ℕ) (before : List Piece) (rest : List ℕ) → Cut bytes before (text ++ rest) → reach before + length text ≤ length bytes → (s : Shape) → IsShape s text → OwnPasses (kind_of s text)
  piece_own text before rest cut within Shape.MarkShape h = mark_passes (entry text marks)
  piece_own text before rest cut within Shape.NameShape h = name_own text (name_is text h) (entry text words)
  piece_own text before rest cut within Shape.NumberShape h = numbers_own text
  piece_own text before rest cut within Shape.StringShape h = is_utf8-from_IsUtf8 (string_chars text) (string_utf8 bytes before text rest (length bytes) cut (valid_all bytes utf8) within h)
  piece_own text before rest cut within Shape.Space h = tt
  piece_own text before rest cut within Shape.Tab h = tt
  piece_own text before rest cut within Shape.Comment h = tt
  piece_own text before rest cut within Shape.LineEnd h = tt
  piece_own text before rest cut within Shape.Joint h = tt

  pass_pieces : (pieces : List Piece) (rest : List ℕ) → Cut bytes pieces rest → Pass (tokens pieces)
  pass_pieces [] rest cut = refl
  pass_pieces (p ∷ before) rest cut =
      let whole = cut_length bytes (p ∷ before) rest cut in
      let own = piece_own p.text before rest cut.1 (omega (arith, whole)) p.shape cut.0.shape in
      let begun : List OffsetToken = cond (begins_line p before) (map (λ kind. (p.at, kind)) (blocks (width (line before)) (opened (widths before)))) [] in
      let ended : List OffsetToken = cond (ends_line p before) (newline before) [] in
      let token = own_token p.at (kind_of p.shape p.text) in
      pass_append (tokens before) (brought p before) (pass_pieces before (p.text ++ rest) cut.1)
      (pass_append begun (token ++ ended) (pass_begun p before) (pass_append token ended (pass_own p.at (kind_of p.shape p.text) own) (pass_ended p before)))

-- each token passes
abbrev pub all_readable : List Token → Bool
all_readable found = list_all (λ (t : Token). is_readable t.kind) found

placed_kinds : (file : ℕ) (bytes : List ℕ) (n : ℕ) (os : List OffsetToken) → all_readable (placed file bytes n os) ≡ list_all (λ (o : OffsetToken). is_readable o.1) os
placed_kinds file bytes n [] = refl
placed_kinds file bytes n (o ∷ os) = ap (λ b. is_readable o.1 && b) (placed_kinds file bytes (n + 1) os)

pub readable_tokens : (file : ℕ) (bytes : List ℕ) (found : List Token) → TokensCut file bytes found → all_readable found ≡ true
readable_tokens file bytes found t =
    ap all_readable t.tokens ∙ placed_kinds file bytes 0 (tokens t.pieces ++ last_tokens t.pieces)
    ∙ pass_append (tokens t.pieces) (last_tokens t.pieces) (pass_pieces bytes t.utf8 t.pieces [] t.cut) (pass_last t.pieces)
