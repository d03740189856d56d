-- Texts of pieces are UTF-8.
use Rattle.std.proofs.Common.{◌≡◌, ℕ, suc, zero, ◌+◌, ◌-◌, ◌<◌, ◌≤◌, Bool, true, false, cond, not, inl, inr, List, [], ◌∷◌, ◌++◌, length, take, drop, get_or, refl, ap, sym, ◌∙◌, subst, arith}
use Rattle.std.specs.Prelude.{IsTrue}
use Rattle.std.specs.List.{list_all}
use Rattle.std.specs.Str.{IsUtf8, IsAscii, IsValidUpTo}
use Rattle.std.proofs.Math.Utf8.{scalar, scalars}
use Rattle.std.proofs.Math.Seq.{take-add}
use Rattle.std.proofs.lemmas.Bool.{and_parts, and_from, ne_eqb, cases_order, false≢true, cases_lt}
use Rattle.std.proofs.lemmas.Bool.Decides.{nat_tests}
use Rattle.std.proofs.lemmas.List.{append_assoc, length-append, append-nil, take_at, drop_at, take_all, get_or_at, get_or_default}
use Rattle.std.proofs.lemmas.List.Sums.{list_all-from_AllPass}
use Rattle.std.proofs.lemmas.Str.{IsUtf8-append, IsUtf8-nil, IsUtf8-from_ascii, IsUtf8-between, IsCharBoundary-after_ascii, IsCharBoundary-before_ascii, encode_ascii, inside_one, length-encode, len_utf8_bounds, utf8_valid_len-IsUtf8, utf8_valid_len-IsValidUpTo, IsAscii-append}
use lib.Utf8.{encode, encodes}
use Rattle.dsl_lexer.specs.declared.shape.Shape.{Shape}
use Rattle.dsl_lexer.specs.Progress.{Valid}
use Rattle.dsl_lexer.specs.Bytes.{is_name_byte, is_backslash, is_quote}
use Rattle.dsl_lexer.specs.Shapes.{Space, Tab, Comment, LineEnd, Joint, MarkShape, NameShape, NumberShape, StringShape, is_lexeme, IsShape, IsName, IsNumber}
use Rattle.dsl_lexer.specs.Kinds.{unescaped, string_chars}
use Rattle.dsl_lexer.specs.Pieces.{Piece, reach, Cut}
use Rattle.dsl_lexer.proofs.Fitting.{name_passes, run_passes, digits_pass, digits_are_name_bytes, quote_is}
use Rattle.dsl_lexer.proofs.Cutting.{spelled}
use Rattle.dsl_lexer.proofs.Ascii.{one_ascii}

-- the longest prefix that is UTF-8

pub valid_all : (bytes : List ℕ) → IsUtf8 bytes → Valid bytes (length bytes)
valid_all bytes u = record {
  within = omega arith;
  bad = λ h. absurd (omega arith);
  only = λ n bad. sym (utf8_valid_len-IsValidUpTo bytes n bad) ∙ utf8_valid_len-IsUtf8 bytes u;
  utf8 = λ e. u;
}

pub valid_part : (bytes : List ℕ) (n : ℕ) → IsValidUpTo bytes n → Valid bytes n
valid_part bytes n bad =
    let short = bad.short in
    record {
      within = omega arith;
      bad = λ h. bad;
      only = λ m other. sym (utf8_valid_len-IsValidUpTo bytes m other) ∙ utf8_valid_len-IsValidUpTo bytes n bad;
      utf8 = λ e. absurd (omega arith);
    }

pub valid_front : (bytes : List ℕ) (valid : ℕ) → Valid bytes valid → IsUtf8 (take valid bytes)
valid_front bytes valid v =
    elim (cases_order valid (length bytes)) [
      | inl e ↦ rw (take_all valid bytes (omega arith)) (v.utf8 e)
      | inr (inl short) ↦ (v.bad short).front
      | inr (inr long) ↦ let w = v.within in absurd (omega arith)
    ]

-- names and numbers are ASCII

name_byte_small : (b : ℕ) → is_name_byte b ≡ true → b < 128
name_byte_small b h = grind (arith, nat_tests)

pub names_ascii : (text : List ℕ) → list_all is_name_byte text ≡ true → IsAscii text
names_ascii [] h i = omega arith
names_ascii (b ∷ more) h zero = name_byte_small b (and_parts (is_name_byte b) (list_all is_name_byte more) h).0
names_ascii (b ∷ more) h (suc i) = names_ascii more (and_parts (is_name_byte b) (list_all is_name_byte more) h).1 i

point_ascii : (more : List ℕ) → IsAscii more → IsAscii (46 ∷ more)
point_ascii more h zero = omega arith
point_ascii more h (suc i) = h i

pub number_ascii : (text : List ℕ) → IsNumber text → IsAscii text
number_ascii text (inl h) = names_ascii text (run_passes text h)
number_ascii text (inr (whole, more, e, digits, run)) =
    subst IsAscii (sym e) (IsAscii-append whole (46 ∷ more) (names_ascii whole (digits_are_name_bytes whole (digits_pass whole digits))) (point_ascii more (names_ascii more (run_passes more run))))

pub name_utf8 : (text : List ℕ) → IsName text → IsUtf8 text
name_utf8 text h = IsUtf8-from_ascii text (names_ascii text (name_passes text h))

-- strings

plain_kept : (xs rest : List ℕ) → list_all (λ b. not (is_backslash b)) xs ≡ true → unescaped false (xs ++ rest) ≡ xs ++ unescaped false rest
plain_kept [] rest h = refl
plain_kept (x ∷ xs) rest h =
    let parts = and_parts (not (is_backslash x)) (list_all (λ b. not (is_backslash b)) xs) h in
    kept_go (is_backslash x) refl parts.0 (plain_kept xs rest parts.1)
  where
    kept_go : (t : Bool) → is_backslash x ≡ t → not t ≡ true → unescaped false (xs ++ rest) ≡ xs ++ unescaped false rest
        → cond t (unescaped true (xs ++ rest)) (x ∷ unescaped false (xs ++ rest)) ≡ x ∷ (xs ++ unescaped false rest)
    kept_go true e f h = absurd (false≢true f)
    kept_go false e f h = ap (λ t. x ∷ t) h

some_kept : (escaped : Bool) (xs rest : List ℕ) → 1 ≤ length xs → list_all (λ b. not (is_backslash b)) xs ≡ true → unescaped escaped (xs ++ rest) ≡ xs ++ unescaped false rest
some_kept false xs rest some h = plain_kept xs rest h
some_kept true [] rest some h = absurd (omega arith)
some_kept true (x ∷ xs) rest some h = ap (λ t. x ∷ t) (plain_kept xs rest (and_parts (not (is_backslash x)) (list_all (λ b. not (is_backslash b)) xs) h).1)

char_plain : (c : ℕ) → 128 ≤ c → list_all (λ b. not (is_backslash b)) (encode c) ≡ true
char_plain c h = list_all-from_AllPass (λ b. not (is_backslash b)) (encode c) (λ k d inside. rw (ne_eqb _ 92 (λ e. char_go k d inside e)) refl)
  where
    char_go : (k d : ℕ) → k < length (encode c) → get_or (encode c) k d ≡ 92 → ⊥
    char_go k d inside e =
        let e0 : get_or (encode c) k 0 ≡ 92 = get_or_default (encode c) k 0 d inside ∙ e in
        let same = inside_one c [] (encode c) k (sym (append-nil (encode c))) inside (omega arith) in
        absurd (omega arith)

char_utf8 : (c : ℕ) → scalar c ≡ true → IsUtf8 (encode c)
char_utf8 c h = (c ∷ [], (and_from (scalar c) true h refl, append-nil (encode c)))

unescaped_chars : (escaped : Bool) (cs : List ℕ) → scalars cs ≡ true → IsUtf8 (unescaped escaped (encodes cs))
unescaped_chars true [] h = IsUtf8-nil
unescaped_chars false [] h = IsUtf8-nil
unescaped_chars escaped (c ∷ cs) h =
    let parts = and_parts (scalar c) (scalars cs) h in
    elim (cases_lt c 128) [
      | inl small ↦ subst (λ t. IsUtf8 (unescaped escaped (t ++ encodes cs))) (sym (encode_ascii c small)) (small_go c (encodes cs) escaped (is_backslash c) refl (char_small c small) (unescaped_chars true cs parts.1) (unescaped_chars false cs parts.1))
      | inr large ↦
          let some = length-encode c in
          let bounds = len_utf8_bounds c in
          rw (some_kept escaped (encode c) (encodes cs) (omega arith) (char_plain c large)) (IsUtf8-append (encode c) (unescaped false (encodes cs)) (char_utf8 c parts.0) (unescaped_chars false cs parts.1))
    ]
  where
    char_small : (c : ℕ) → c < 128 → IsUtf8 (c ∷ [])
    char_small c h = IsUtf8-from_ascii (c ∷ []) (one_ascii c h)

    small_go : (c : ℕ) (rest : List ℕ) (escaped t : Bool) → is_backslash c ≡ t → IsUtf8 (c ∷ []) → IsUtf8 (unescaped true rest) → IsUtf8 (unescaped false rest) → IsUtf8 (unescaped escaped (c ∷ rest))
    small_go c rest true t e one a b = IsUtf8-append (c ∷ []) (unescaped false rest) one b
    small_go c rest false true e one a b = rw e a
    small_go c rest false false e one a b = rw e (IsUtf8-append (c ∷ []) (unescaped false rest) one b)

unescaped_utf8 : (xs : List ℕ) → IsUtf8 xs → IsUtf8 (unescaped false xs)
unescaped_utf8 xs (cs, (h, e)) = subst (λ t. IsUtf8 (unescaped false t)) e (unescaped_chars false cs h)

inside_chars : (quote : ℕ) (inside text : List ℕ) → text ≡ quote ∷ inside ++ quote ∷ [] → string_chars text ≡ unescaped false inside
inside_chars quote inside text e =
    let size : length text - 2 ≡ length inside = omega (arith, ap length e, length-append inside (quote ∷ [])) in
    ap (unescaped false) (ap (λ n. take n (drop 1 text)) size ∙ ap (λ t. take (length inside) (drop 1 t)) e ∙ take_at inside (quote ∷ []) (length inside) refl)

-- what stands between two ASCII bytes
quoted : (front : List ℕ) (quote : ℕ) (inside tail : List ℕ) → quote < 128 → IsUtf8 (front ++ quote ∷ (inside ++ quote ∷ tail)) → IsUtf8 inside
quoted front quote inside tail small u =
    let w = front ++ quote ∷ (inside ++ quote ∷ tail) in
    let size : length w ≡ length front + suc (length inside + suc (length tail)) = length-append front (quote ∷ (inside ++ quote ∷ tail)) ∙ ap (λ n. length front + suc n) (length-append inside (quote ∷ tail)) in
    let first : get_or w (length front) 0 ≡ quote = get_or_at front quote (inside ++ quote ∷ tail) 0 (length front) refl in
    let start = IsCharBoundary-after_ascii w (length front) u (omega arith) (omega arith) in
    let j = length front + 1 + length inside in
    let again : w ≡ (front ++ quote ∷ inside) ++ quote ∷ tail = sym (append_assoc front (quote ∷ inside) (quote ∷ tail)) in
    let second : get_or w j 0 ≡ quote = ap (λ t. get_or t j 0) again ∙ get_or_at (front ++ quote ∷ inside) quote tail 0 j (let z = length-append front (quote ∷ inside) in omega arith) in
    let end = IsCharBoundary-before_ascii w j (omega arith) (omega arith) in
    let between' = IsUtf8-between w (length front + 1) j u (omega arith) start end in
    let parts : w ≡ (front ++ quote ∷ []) ++ (inside ++ quote ∷ tail) = sym (append_assoc front (quote ∷ []) (inside ++ quote ∷ tail)) in
    let rest : drop (length front + 1) w ≡ inside ++ quote ∷ tail = ap (drop (length front + 1)) parts ∙ drop_at (front ++ quote ∷ []) (inside ++ quote ∷ tail) (length front + 1) (length-append front (quote ∷ [])) in
    let len : j - (length front + 1) ≡ length inside = omega arith in
    let same : take (j - (length front + 1)) (drop (length front + 1) w) ≡ inside = ap (λ n. take n (drop (length front + 1) w)) len ∙ ap (take (length inside)) rest ∙ take_at inside (quote ∷ tail) (length inside) refl in
    subst IsUtf8 same between'

pub string_utf8 : (bytes : List ℕ) (before : List Piece) (text behind : List ℕ) (valid : ℕ) → Cut bytes before (text ++ behind) → Valid bytes valid → reach before + length text ≤ valid → IsShape StringShape text → IsUtf8 (string_chars text)
string_utf8 bytes before text behind valid cut v within (quote, inside, chars, e, q, good) =
    let x = spelled bytes before (text ++ behind) cut in
    let k = valid - (reach before + length text) in
    let size : length text ≡ suc (length inside + 1) = ap length e ∙ ap suc (length-append inside (quote ∷ [])) in
    let whole : take valid bytes ≡ (x.front ++ text) ++ take k (drop (reach before + length text) bytes) =
    ap (λ n. take n bytes) (let z : valid ≡ reach before + length text + k = omega arith in z) ∙ take-add (reach before + length text) k bytes
    ∙ ap (λ t. t ++ take k (drop (reach before + length text) bytes)) (ap (take (reach before + length text)) (x.split ∙ sym (append_assoc x.front text behind)) ∙ take_at (x.front ++ text) behind (reach before + length text) (length-append x.front text ∙ ap (λ n. n + length text) x.size)) in
    string_go x.front quote inside (take k (drop (reach before + length text) bytes)) text e q (subst IsUtf8 whole (valid_front bytes valid v))
  where
    string_go : (front : List ℕ) (quote : ℕ) (inside tail text : List ℕ) → text ≡ quote ∷ inside ++ quote ∷ [] → is_quote quote ≡ true → IsUtf8 ((front ++ text) ++ tail) → IsUtf8 (string_chars text)
    string_go front quote inside tail text e q u =
        let small : quote < 128 = elim (quote_is quote q) [ inl a ↦ omega arith | inr a ↦ omega arith ] in
        let shape : (front ++ text) ++ tail ≡ front ++ quote ∷ (inside ++ quote ∷ tail) =
        append_assoc front text tail ∙ ap (λ t. front ++ (t ++ tail)) e ∙ ap (λ t. front ++ quote ∷ t) (append_assoc inside (quote ∷ []) tail) in
        rw (inside_chars quote inside text e) (unescaped_utf8 inside (quoted front quote inside tail small (subst IsUtf8 shape u)))

-- a lexeme that is no mark, no name and no string is a number
pub number_left : (s : Shape) (text : List ℕ) → IsTrue (is_lexeme s) → (s ≡ MarkShape → ⊥) → (s ≡ NameShape → ⊥) → (s ≡ StringShape → ⊥) → IsShape s text → IsAscii text
number_left NumberShape text lex a b c h = number_ascii text h
number_left MarkShape text lex a b c h = absurd (a refl)
number_left NameShape text lex a b c h = absurd (b refl)
number_left StringShape text lex a b c h = absurd (c refl)
number_left Space text lex a b c h = absurd (false≢true lex)
number_left Tab text lex a b c h = absurd (false≢true lex)
number_left Comment text lex a b c h = absurd (false≢true lex)
number_left LineEnd text lex a b c h = absurd (false≢true lex)
number_left Joint text lex a b c h = absurd (false≢true lex)
