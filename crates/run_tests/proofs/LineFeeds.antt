-- A line feed at the end of a JSON text changes nothing.
use Rattle.std.proofs.Common.{◌≡◌, ◌∙◌, refl, sym, ap, true≢false, arith, ℕ, zero, suc, ◌+◌, ◌-◌, ◌*◌, ◌≤◌, ◌==◌, Bool, true, false, cond, ◌&&◌, ◌||◌, not, List, [], ◌∷◌, ◌++◌, length, length-append, take, drop, Option, Some, None}
use Rattle.std.specs.Prelude.{nat_eq, nat_lt, option_and_then}
use Rattle.std.specs.List.{prefix_len, starts_with, list_all}
use Rattle.std.specs.Char.{is_ascii_digit, digit_value, is_digit, encode_utf8}
use Rattle.std.specs.Cmp.Lexicographic.{pointwise}
use native.Mathlib.Numerals.{one-add}
use Rattle.json.specs.Token.{Token, bad, number, boolean, null}
use Rattle.json.specs.Ascii as ascii
use Rattle.json.specs.Text.{Within, plain, after_backslash, after_u, after_high, content, code_unit, short_escape, prepend, is_high_surrogate, is_low_surrogate, surrogate_pair}
use Rattle.json.specs.Word.{ends_word, after_digits, after_minus, after_sign, after_whole, after_fraction, after_exponent, after_number, number_before, literal, word}
use Rattle.json.specs.Lex.{Lexeme, Class, quote, backslash, operator, space, other, class, Mode, between, in_word, in_string, in_escape, lex_byte, lex, string_token, operator_lexeme, token, punctuate, fresh}
use Rattle.json.specs.Json as json
use Rattle.serde_json.specs.Read.{read, of_json, max_depth}

abbrev feed : List ℕ
feed = 10 ∷ []

-- ---- strings

abbrev nothing : {T : Type 0} → Option T
nothing = None

either : {T : Type 0} (b : Bool) → cond b (nothing {T = T}) nothing ≡ nothing
either true = refl
either false = refl

-- a line feed is no hex digit
no_unit : {T : Type 0} (a b c : ℕ) (f : ℕ → Option T) → option_and_then f (code_unit a b c 10) ≡ None
unfolding code_unit
no_unit a b c f = by (is_digit a 16 && is_digit b 16 && is_digit c 16)
  where
    by : (d : Bool) → option_and_then f (cond (d && false) (Some (digit_value a * 4096 + digit_value b * 256 + digit_value c * 16 + digit_value 10)) None) ≡ None
    by true = refl
    by false = refl

content_feed : (w : Within) (xs : List ℕ) → content w (xs ++ feed) ≡ content w xs
unfolding content code_unit short_escape
content_feed plain [] = refl
content_feed plain (x ∷ xs) =
    λ i. cond (x == ascii.quote) (Some []) (cond (x == ascii.backslash) (content_feed after_backslash xs i) (cond (nat_lt x ascii.space) None (prepend (x ∷ []) (content_feed plain xs i))))
content_feed after_backslash [] = refl
content_feed after_backslash (x ∷ xs) =
    λ i. cond (x == ascii.lower_u) (content_feed after_u xs i) (option_and_then (λ c. prepend (c ∷ []) (content_feed plain xs i)) (short_escape x))
content_feed after_u [] = refl
content_feed after_u (a ∷ []) = refl
content_feed after_u (a ∷ b ∷ []) = refl
content_feed after_u (a ∷ b ∷ c ∷ []) = no_unit a b c (λ u. cond (is_high_surrogate u) (content (after_high u) []) (cond (is_low_surrogate u) None (prepend (encode_utf8 u) (content plain []))))
content_feed after_u (a ∷ b ∷ c ∷ d ∷ xs) =
    λ i. option_and_then (λ u. cond (is_high_surrogate u) (content_feed (after_high u) xs i) (cond (is_low_surrogate u) None (prepend (encode_utf8 u) (content_feed plain xs i)))) (code_unit a b c d)
content_feed (after_high h) [] = refl
content_feed (after_high h) (s ∷ []) = refl
content_feed (after_high h) (s ∷ u ∷ []) = refl
content_feed (after_high h) (s ∷ u ∷ a ∷ []) = refl
content_feed (after_high h) (s ∷ u ∷ a ∷ b ∷ []) = refl
content_feed (after_high h) (s ∷ u ∷ a ∷ b ∷ c ∷ []) =
    ap (λ o. cond ((s == ascii.backslash) && (u == ascii.lower_u)) o None)
    (no_unit a b c (λ l. cond (is_low_surrogate l) (prepend (encode_utf8 (surrogate_pair h l)) (content plain [])) None))
    ∙ either ((s == ascii.backslash) && (u == ascii.lower_u))
content_feed (after_high h) (s ∷ u ∷ a ∷ b ∷ c ∷ d ∷ xs) =
    λ i. cond ((s == ascii.backslash) && (u == ascii.lower_u)) (option_and_then (λ l. cond (is_low_surrogate l) (prepend (encode_utf8 (surrogate_pair h l)) (content_feed plain xs i)) None) (code_unit a b c d)) None

-- ---- words

digits_feed : (t : List ℕ) → prefix_len is_ascii_digit (t ++ feed) ≡ prefix_len is_ascii_digit t
digits_feed [] = refl
digits_feed (x ∷ xs) = ap (λ n. cond (is_ascii_digit x) (1 + n) 0) (digits_feed xs)

drop_prefix_by : (x : ℕ) (xs : List ℕ) (b : Bool) → drop (prefix_len is_ascii_digit xs) (xs ++ feed) ≡ drop (prefix_len is_ascii_digit xs) xs ++ feed
    → drop (cond b (1 + prefix_len is_ascii_digit xs) 0) ((x ∷ xs) ++ feed) ≡ drop (cond b (1 + prefix_len is_ascii_digit xs) 0) (x ∷ xs) ++ feed
drop_prefix_by x xs true h = (λ i. drop (one-add (prefix_len is_ascii_digit xs) i) ((x ∷ xs) ++ feed)) ∙ h ∙ sym (λ i. drop (one-add (prefix_len is_ascii_digit xs) i) (x ∷ xs) ++ feed)
drop_prefix_by x xs false h = refl

drop_prefix : (t : List ℕ) → drop (prefix_len is_ascii_digit t) (t ++ feed) ≡ drop (prefix_len is_ascii_digit t) t ++ feed
drop_prefix [] = refl
drop_prefix (x ∷ xs) = drop_prefix_by x xs (is_ascii_digit x) (drop_prefix xs)

-- the same, with the line feed still at the end
abbrev fed : Option (List ℕ) → Option (List ℕ)
fed None = None
fed (Some t) = Some (t ++ feed)

after_digits_feed : (t : List ℕ) → after_digits (t ++ feed) ≡ fed (after_digits t)
after_digits_feed t =
    (λ i. cond (digits_feed t i == 0) None (Some (drop (digits_feed t i) (t ++ feed))))
    ∙ ap (λ z. cond (prefix_len is_ascii_digit t == 0) None (Some z)) (drop_prefix t)
    ∙ by (prefix_len is_ascii_digit t == 0)
  where
    by : (b : Bool) → cond b None (Some (drop (prefix_len is_ascii_digit t) t ++ feed)) ≡ fed (cond b None (Some (drop (prefix_len is_ascii_digit t) t)))
    by true = refl
    by false = refl

after_minus_feed : (t : List ℕ) → after_minus (t ++ feed) ≡ after_minus t ++ feed
after_minus_feed [] = refl
after_minus_feed (x ∷ xs) = by (x == ascii.minus)
  where
    by : (b : Bool) → cond b (xs ++ feed) ((x ∷ xs) ++ feed) ≡ cond b xs (x ∷ xs) ++ feed
    by true = refl
    by false = refl

after_sign_feed : (t : List ℕ) → after_sign (t ++ feed) ≡ after_sign t ++ feed
after_sign_feed [] = refl
after_sign_feed (x ∷ xs) = by ((x == ascii.minus) || (x == ascii.plus))
  where
    by : (b : Bool) → cond b (xs ++ feed) ((x ∷ xs) ++ feed) ≡ cond b xs (x ∷ xs) ++ feed
    by true = refl
    by false = refl

after_whole_feed : (t : List ℕ) → after_whole (t ++ feed) ≡ fed (after_whole t)
after_whole_feed [] = refl
after_whole_feed (x ∷ xs) = ap (λ z. cond (x == ascii.zero) (Some (xs ++ feed)) z) (after_digits_feed (x ∷ xs)) ∙ by (x == ascii.zero)
  where
    by : (b : Bool) → cond b (Some (xs ++ feed)) (fed (after_digits (x ∷ xs))) ≡ fed (cond b (Some xs) (after_digits (x ∷ xs)))
    by true = refl
    by false = refl

after_fraction_feed : (t : List ℕ) → after_fraction (t ++ feed) ≡ fed (after_fraction t)
after_fraction_feed [] = refl
after_fraction_feed (x ∷ xs) = ap (λ z. cond (x == ascii.dot) z (Some ((x ∷ xs) ++ feed))) (after_digits_feed xs) ∙ by (x == ascii.dot)
  where
    by : (b : Bool) → cond b (fed (after_digits xs)) (Some ((x ∷ xs) ++ feed)) ≡ fed (cond b (after_digits xs) (Some (x ∷ xs)))
    by true = refl
    by false = refl

after_exponent_feed : (t : List ℕ) → after_exponent (t ++ feed) ≡ fed (after_exponent t)
after_exponent_feed [] = refl
after_exponent_feed (x ∷ xs) =
    ap (λ z. cond ((x == ascii.lower_e) || (x == ascii.upper_e)) z (Some ((x ∷ xs) ++ feed))) (ap after_digits (after_sign_feed xs) ∙ after_digits_feed (after_sign xs))
    ∙ by ((x == ascii.lower_e) || (x == ascii.upper_e))
  where
    by : (b : Bool) → cond b (fed (after_digits (after_sign xs))) (Some ((x ∷ xs) ++ feed)) ≡ fed (cond b (after_digits (after_sign xs)) (Some (x ∷ xs)))
    by true = refl
    by false = refl

then_feed : (f : List ℕ → Option (List ℕ)) → ((t : List ℕ) → f (t ++ feed) ≡ fed (f t)) → (o : Option (List ℕ)) → option_and_then f (fed o) ≡ fed (option_and_then f o)
then_feed f h None = refl
then_feed f h (Some t) = h t

after_number_feed : (t : List ℕ) → after_number (t ++ feed) ≡ fed (after_number t)
unfolding after_number
after_number_feed t =
    ap (λ o. option_and_then after_exponent (option_and_then after_fraction o)) (ap after_whole (after_minus_feed t) ∙ after_whole_feed (after_minus t))
    ∙ ap (option_and_then after_exponent) (then_feed after_fraction after_fraction_feed (after_whole (after_minus t)))
    ∙ then_feed after_exponent after_exponent_feed (option_and_then after_fraction (after_whole (after_minus t)))

ends_feed : (t : List ℕ) → ends_word (t ++ feed) ≡ ends_word t
ends_feed [] = refl
ends_feed (x ∷ xs) = refl

take_feed : (k : ℕ) (t : List ℕ) → k ≤ length t → take k (t ++ feed) ≡ take k t
take_feed zero t h = refl
take_feed (suc k) [] h = absurd (omega (arith, h))
take_feed (suc k) (x ∷ xs) h = ap (λ z. x ∷ z) (take_feed k xs (omega (arith, h)))

number_feed : (t : List ℕ) (o : Option (List ℕ)) → number_before (t ++ feed) (fed o) ≡ number_before t o
number_feed t None = refl
number_feed t (Some rest) =
    (λ i. cond (ends_feed rest i) (number (take (less i) (t ++ feed))) bad)
    ∙ ap (λ z. cond (ends_word rest) (number z) bad) (take_feed (length t - length rest) t (omega arith))
  where
    less : length (t ++ feed) - length (rest ++ feed) ≡ length t - length rest
    less = omega (arith, length-append t feed, length-append rest feed)

-- a name without a line feed
starts_feed : (t name : List ℕ) → list_all (λ b. not (nat_eq b 10)) name ≡ true → starts_with nat_eq (t ++ feed) name ≡ starts_with nat_eq t name
starts_feed [] [] h = refl
starts_feed (x ∷ xs) [] h = refl
starts_feed [] (b ∷ bs) h = by (nat_eq b 10) h
  where
    by : (c : Bool) → not c && list_all (λ b. not (nat_eq b 10)) bs ≡ true → (c && pointwise nat_eq bs (take (length bs) [])) ≡ false
    by true g = absurd (true≢false (sym g))
    by false g = refl
starts_feed (x ∷ xs) (b ∷ bs) h = ap (λ z. nat_eq b x && z) (starts_feed xs bs (right (nat_eq b 10) h))
  where
    right : (c : Bool) → not c && list_all (λ b. not (nat_eq b 10)) bs ≡ true → list_all (λ b. not (nat_eq b 10)) bs ≡ true
    right true g = absurd (true≢false (sym g))
    right false g = g

ends_later : (n : ℕ) (t : List ℕ) → ends_word (drop n (t ++ feed)) ≡ ends_word (drop n t)
ends_later zero t = ends_feed t
ends_later (suc n) [] = ends_nothing n
  where
    ends_nothing : (k : ℕ) → ends_word (drop k []) ≡ ends_word []
    ends_nothing zero = refl
    ends_nothing (suc k) = refl
ends_later (suc n) (x ∷ xs) = ends_later n xs

literal_feed : (name : List ℕ) (k : Token) (t : List ℕ) → list_all (λ b. not (nat_eq b 10)) name ≡ true → literal name k (t ++ feed) ≡ literal name k t
literal_feed name k t h = λ i. cond (starts_feed t name h i && ends_later (length name) t i) k bad

word_feed : (x : ℕ) (xs : List ℕ) → word (x ∷ (xs ++ feed)) ≡ word (x ∷ xs)
unfolding word
word_feed x xs =
    λ i. cond (x == ascii.lower_t) (literal_feed ascii.true_text (boolean true) (x ∷ xs) refl i)
    (cond (x == ascii.lower_f) (literal_feed ascii.false_text (boolean false) (x ∷ xs) refl i)
    (cond (x == ascii.lower_n) (literal_feed ascii.null_text null (x ∷ xs) refl i)
    ((ap (number_before ((x ∷ xs) ++ feed)) (after_number_feed (x ∷ xs)) ∙ number_feed (x ∷ xs) (after_number (x ∷ xs))) i)))

-- ---- texts

byte_same : (m : Mode) (c : Class) (x : ℕ) (xs ys : List ℕ) (k l : Mode → List Lexeme) → content plain xs ≡ content plain ys → word (x ∷ xs) ≡ word (x ∷ ys)
    → ((n : Mode) → k n ≡ l n) → lex_byte m c x xs k ≡ lex_byte m c x ys l
byte_same m c x xs ys k l e f g = by m c
  where
    by : (m : Mode) (c : Class) → lex_byte m c x xs k ≡ lex_byte m c x ys l
    by between quote = λ i. token (string_token (e i)) ∷ g in_string i
    by between backslash = λ i. token bad ∷ g in_word i
    by between operator = λ i. operator_lexeme x ∷ g between i
    by between space = g between
    by between other = λ i. token (f i) ∷ g in_word i
    by in_word quote = g in_word
    by in_word backslash = g in_word
    by in_word operator = λ i. operator_lexeme x ∷ g between i
    by in_word space = g between
    by in_word other = g in_word
    by in_string quote = g between
    by in_string backslash = g in_escape
    by in_string operator = g in_string
    by in_string space = g in_string
    by in_string other = g in_string
    by in_escape c = g in_string

lex_feed : (m : Mode) (xs : List ℕ) → lex m (xs ++ feed) ≡ lex m xs
unfolding lex
lex_feed between [] = refl
lex_feed in_word [] = refl
lex_feed in_string [] = refl
lex_feed in_escape [] = refl
lex_feed m (x ∷ xs) =
    byte_same m (class x) x (xs ++ feed) xs (λ n. lex n (xs ++ feed)) (λ n. lex n xs) (content_feed plain xs) (word_feed x xs) (λ n. lex_feed n xs)

-- a text with a line feed at its end reads as the text without it
pub read_feed : (text : List ℕ) → read (text ++ 10 ∷ []) ≡ read text
read_feed text =
    ap (λ ls. option_and_then of_json (option_and_then (λ p. json.if_last p.0 p.1) (json.value max_depth (punctuate fresh ls)))) (lex_feed between text)
