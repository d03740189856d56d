-- A text of a shape begins with a byte of the shape, and is no longer than the piece that is found where it stands.
use Rattle.std.proofs.Common.{◌≡◌, ℕ, suc, ◌+◌, ◌≤◌, Bool, true, false, cond, ◌&&◌, not, ◌⊎◌, inl, inr, Option, Some, None, List, [], ◌∷◌, ◌++◌, length, take, drop, refl, ap, sym, ◌∙◌, subst, arith}
use Rattle.std.specs.Prelude.{IsSome, is_some, ◌==◌}
use Rattle.std.specs.List.{list_all, prefix_len}
use Rattle.std.specs.Option.{option_map}
use Rattle.std.proofs.lemmas.Bool.{and_parts, and_from, or_cases, or_left, or_right, cond_both, cond-true, false≢true, eqb-true, eq-eqb, false_from_ne_true, not-true}
use Rattle.std.proofs.lemmas.Bool.Decides.{nat_tests}
use Rattle.std.proofs.lemmas.List.{append_assoc, length-append, length-take, drop_at, drop-drop}
use Rattle.dsl_tree.specs.declared.token.MarkKind.{MarkKind}
use Rattle.dsl_lexer.specs.Scan.{is_inside}
use Rattle.dsl_lexer.specs.declared.shape.Shape.{Shape}
use Rattle.dsl_lexer.specs.Bytes.{is_digit, is_name_start, is_name_byte, is_line_feed, is_backslash, is_quote, is_escapable}
use Rattle.dsl_lexer.specs.Shapes.{Space, Tab, Comment, LineEnd, Joint, MarkShape, NameShape, NumberShape, StringShape, entry, marks, IsLineEnd, IsName, IsDigitRun, IsDigits, IsNumber, IsShape}
use Rattle.dsl_lexer.specs.Scan.{first_shape, line_end_len, begins_fraction, name_run, number_len, closing, mark_len, piece_len}
use Rattle.dsl_lexer.proofs.Inside.{inside_test}
use Rattle.dsl_lexer.proofs.Tables.{passes, is_mark_like, marks_are_like, mark_shape_is}

-- kinds of bytes

pub digit_is_no_start : (b : ℕ) → is_digit b ≡ true → is_name_start b ≡ false
digit_is_no_start b d = grind (arith, nat_tests)

pub digit_is_name_byte : (b : ℕ) → is_digit b ≡ true → is_name_byte b ≡ true
digit_is_name_byte b d = or_right (is_name_start b) (is_digit b) d

pub start_is_name_byte : (b : ℕ) → is_name_start b ≡ true → is_name_byte b ≡ true
start_is_name_byte b d = or_left (is_name_start b) (is_digit b) d

pub quote_is : (b : ℕ) → is_quote b ≡ true → (b ≡ 34) ⊎ (b ≡ 39)
quote_is b h = elim (or_cases (b == 34) (b == 39) h) [ inl e ↦ inl (eqb-true b 34 e) | inr e ↦ inr (eqb-true b 39 e) ]

first_name : (b : ℕ) → is_name_start b ≡ true → first_shape b ≡ NameShape
first_name b h = cond-true (is_name_start b) NameShape _ h

first_number : (b : ℕ) → is_digit b ≡ true → first_shape b ≡ NumberShape
first_number b h =
    let no_start = digit_is_no_start b h in
    let no_space : (b == 32) ≡ false = false_from_ne_true (b == 32) (λ e. false≢true (rw (eqb-true b 32 e) at h)) in
    rw (no_start, no_space, h) refl

first_quote : (b : ℕ) → is_quote b ≡ true → first_shape b ≡ StringShape
first_quote b h = elim (quote_is b h) [ inl e ↦ rw e refl | inr e ↦ rw e refl ]

-- a text of a shape begins with a byte of it

pub record Begins (s : Shape) (text : List ℕ) : Type 0 where
  pub head : ℕ
  pub tail : List ℕ
  pub split : text ≡ head ∷ tail
  pub first : first_shape head ≡ s

mark_begins : (text : List ℕ) → is_mark_like text ≡ true → Begins MarkShape text
mark_begins [] h = absurd (false≢true h)
mark_begins (b ∷ []) h = record { head = b; tail = []; split = refl; first = mark_shape_is (first_shape b) h }
mark_begins (b ∷ c ∷ []) h = record { head = b; tail = c ∷ []; split = refl; first = mark_shape_is (first_shape b) h }
mark_begins (b ∷ c ∷ d ∷ more) h = absurd (false≢true h)

name_begins : (text : List ℕ) → IsName text → Begins NameShape text
name_begins [] h = absurd h
name_begins (b ∷ more) h = record { head = b; tail = more; split = refl; first = first_name b h.0 }

run_begins : (text : List ℕ) → IsDigitRun text → Begins NumberShape text
run_begins [] h = absurd h
run_begins (b ∷ more) h = record { head = b; tail = more; split = refl; first = first_number b h.0 }

point_begins : (whole rest text : List ℕ) → IsDigits whole → text ≡ whole ++ rest → Begins NumberShape text
point_begins [] rest text h e = absurd h
point_begins (b ∷ more) rest text h e = record { head = b; tail = more ++ rest; split = e; first = first_number b h.0 }

pub begins : (s : Shape) (text : List ℕ) → IsShape s text → Begins s text
begins Space text e = record { head = 32; tail = []; split = e; first = refl }
begins Tab text e = record { head = 9; tail = []; split = e; first = refl }
begins Comment text (more, e, h) = record { head = 35; tail = more; split = e; first = refl }
begins LineEnd text (inl e) = record { head = 10; tail = []; split = e; first = refl }
begins LineEnd text (inr e) = record { head = 13; tail = 10 ∷ []; split = e; first = refl }
begins Joint text (end, e, h) = record { head = 92; tail = end; split = e; first = refl }
begins MarkShape text h = mark_begins text (passes is_mark_like marks text marks_are_like h)
begins NameShape text h = name_begins text h
begins NumberShape text (inl h) = run_begins text h
begins NumberShape text (inr (whole, more, e, digits, h)) = point_begins whole (46 ∷ more) text digits e
begins StringShape text (quote, inside, chars, e, h, i) = record { head = quote; tail = inside ++ quote ∷ []; split = e; first = first_quote quote h }

-- runs

pub run_covers : (p : ℕ → Bool) (xs ys : List ℕ) → list_all p xs ≡ true → length xs ≤ prefix_len p (xs ++ ys)
run_covers p [] ys h = omega arith
run_covers p (x ∷ xs) ys h =
    let parts = and_parts (p x) (list_all p xs) h in
    let rest = run_covers p xs ys parts.1 in
    rw parts.0 (omega arith)

pub run_exact : (p : ℕ → Bool) (xs : List ℕ) (b : ℕ) (ys : List ℕ) → list_all p xs ≡ true → p b ≡ false → prefix_len p (xs ++ b ∷ ys) ≡ length xs
run_exact p [] b ys h n = rw n refl
run_exact p (x ∷ xs) b ys h n =
    let parts = and_parts (p x) (list_all p xs) h in
    let rest = run_exact p xs b ys parts.1 n in
    rw (parts.0, rest) (omega arith)

-- how long

abbrev pub AtMost : ℕ → Option ℕ → Type 0
AtMost k None = ⊥
AtMost k (Some n) = k ≤ n

AtMost-suc : (k : ℕ) (o : Option ℕ) → AtMost k o → AtMost (suc k) (option_map suc o)
AtMost-suc k None h = absurd h
AtMost-suc k (Some n) h = omega arith

line_end_fits : (text rest : List ℕ) → IsLineEnd text → AtMost (length text) (line_end_len (text ++ rest))
unfolding line_end_len
line_end_fits text rest (inl e) = subst (λ t. AtMost (length t) (line_end_len (t ++ rest))) (sym e) (lit1 1)
  where
    lit1 : (n : ℕ) → n ≤ n
    lit1 n = omega arith
line_end_fits text rest (inr e) = subst (λ t. AtMost (length t) (line_end_len (t ++ rest))) (sym e) (lit2 2)
  where
    lit2 : (n : ℕ) → n ≤ n
    lit2 n = omega arith

joint_fits : (text rest end : List ℕ) → text ≡ 92 ∷ end → IsLineEnd end → AtMost (length text) (option_map suc (line_end_len (drop 1 (text ++ rest))))
joint_fits text rest end e h = subst (λ t. AtMost (length t) (option_map suc (line_end_len (drop 1 (t ++ rest))))) (sym e) (AtMost-suc (length end) (line_end_len (end ++ rest)) (line_end_fits end rest h))

pub name_passes : (text : List ℕ) → IsName text → list_all is_name_byte text ≡ true
name_passes [] h = absurd h
name_passes (b ∷ more) h = and_from (is_name_byte b) (list_all is_name_byte more) (start_is_name_byte b h.0) h.1

pub run_passes : (text : List ℕ) → IsDigitRun text → list_all is_name_byte text ≡ true
run_passes [] h = absurd h
run_passes (b ∷ more) h = and_from (is_name_byte b) (list_all is_name_byte more) (digit_is_name_byte b h.0) h.1

pub digits_pass : (text : List ℕ) → IsDigits text → list_all is_digit text ≡ true
digits_pass [] h = absurd h
digits_pass (b ∷ more) h = and_from (is_digit b) (list_all is_digit more) h.0 h.1

pub digits_are_name_bytes : (text : List ℕ) → list_all is_digit text ≡ true → list_all is_name_byte text ≡ true
digits_are_name_bytes [] h = refl
digits_are_name_bytes (b ∷ more) h =
    let parts = and_parts (is_digit b) (list_all is_digit more) h in
    and_from (is_name_byte b) (list_all is_name_byte more) (digit_is_name_byte b parts.0) (digits_are_name_bytes more parts.1)

run_is_less : (rest : List ℕ) → name_run rest ≤ number_len rest
unfolding number_len
run_is_less rest = cond_both _ (name_run rest + 1 + name_run (drop (name_run rest + 1) rest)) (name_run rest) (λ n. name_run rest ≤ n) (λ _. omega arith) (λ _. omega arith)

run_fraction : (more rest : List ℕ) → IsDigitRun more → begins_fraction (46 ∷ more ++ rest) ≡ true
run_fraction [] rest h = absurd h
run_fraction (b ∷ more) rest h = h.0

-- a number with a point is read beyond it
point_fits : (rest : List ℕ) (n : ℕ) → name_run rest ≡ n → prefix_len is_digit rest ≡ n → begins_fraction (drop n rest) ≡ true → (P : ℕ → Type 0) → P (n + 1 + name_run (drop (n + 1) rest)) → P (number_len rest)
unfolding number_len
point_fits rest n names numbers fraction P h = rw (names, numbers, eq-eqb n n refl, fraction) h

number_fits : (text rest : List ℕ) → IsNumber text → length text ≤ number_len (text ++ rest)
number_fits text rest (inl h) = let a = run_covers is_name_byte text rest (run_passes text h) in let b = run_is_less (text ++ rest) in omega arith
number_fits text rest (inr (whole, more, e, digits, run)) =
    let named = digits_are_name_bytes whole (digits_pass whole digits) in
    let all : text ++ rest ≡ whole ++ 46 ∷ (more ++ rest) = ap (λ t. t ++ rest) e ∙ append_assoc whole (46 ∷ more) rest in
    let names : name_run (text ++ rest) ≡ length whole = ap name_run all ∙ run_exact is_name_byte whole 46 (more ++ rest) named refl in
    let numbers : prefix_len is_digit (text ++ rest) ≡ length whole = ap (prefix_len is_digit) all ∙ run_exact is_digit whole 46 (more ++ rest) (digits_pass whole digits) refl in
    let behind : drop (length whole) (text ++ rest) ≡ 46 ∷ (more ++ rest) = ap (drop (length whole)) all ∙ drop_at whole (46 ∷ (more ++ rest)) (length whole) refl in
    let later : drop (length whole + 1) (text ++ rest) ≡ more ++ rest = sym (drop-drop 1 (length whole) (text ++ rest)) ∙ ap (drop 1) behind in
    let covered = run_covers is_name_byte more rest (run_passes more run) in
    let size : length text ≡ length whole + suc (length more) = ap length e ∙ length-append whole (46 ∷ more) in
    point_fits (text ++ rest) (length whole) names numbers (ap begins_fraction behind ∙ run_fraction more rest run) (λ k. (length text ≤ k))
    (rw later (omega arith))

inside_fits : (quote b : ℕ) (escape plain : Option ℕ) (i j : Bool) (n : ℕ) (backslash : Bool) → cond backslash i (not (b == quote) && not (is_line_feed b) && j) ≡ true
    → (i ≡ true → escape ≡ Some (n + 1)) → (j ≡ true → plain ≡ Some (n + 1))
    → cond backslash (option_map suc escape) (cond (b == quote) (Some 1) (cond (is_line_feed b) None (option_map suc plain))) ≡ Some (suc n + 1)
inside_fits quote b escape plain i j n true h e p = rw (e h) (let z : suc (n + 1) ≡ suc n + 1 = omega arith in ap Some z)
inside_fits quote b escape plain i j n false h e p =
    let parts = and_parts (not (b == quote) && not (is_line_feed b)) j h in
    let tests = and_parts (not (b == quote)) (not (is_line_feed b)) parts.0 in
    rw (not-true (b == quote) tests.0, not-true (is_line_feed b) tests.1, p parts.1) (let z : suc (n + 1) ≡ suc n + 1 = omega arith in ap Some z)

closing_fits : (quote : ℕ) (escaped : Bool) (inside rest : List ℕ) → is_quote quote ≡ true → is_inside quote escaped inside ≡ true → closing quote escaped (inside ++ quote ∷ rest) ≡ Some (length inside + 1)
unfolding closing
closing_fits quote true [] rest q h = absurd (false≢true h)
closing_fits quote false [] rest q h =
    let no_backslash : is_backslash quote ≡ false = elim (quote_is quote q) [ inl e ↦ rw e refl | inr e ↦ rw e refl ] in
    rw (no_backslash, eq-eqb quote quote refl) refl
closing_fits quote true (b ∷ more) rest q h =
    let parts = and_parts (is_escapable b) (is_inside quote false more) h in
    rw (parts.0, closing_fits quote false more rest q parts.1) (let e : suc (length more + 1) ≡ suc (length more) + 1 = omega arith in ap Some e)
closing_fits quote false (b ∷ more) rest q h =
    inside_fits quote b (closing quote true (more ++ quote ∷ rest)) (closing quote false (more ++ quote ∷ rest)) (is_inside quote true more) (is_inside quote false more) (length more) (is_backslash b) h
    (λ i. closing_fits quote true more rest q i) (λ i. closing_fits quote false more rest q i)

first_or_one : (two : Option MarkKind) (n : ℕ) (one : Option MarkKind) → 1 ≤ n → IsSome one → AtMost 1 (cond (is_some two) (Some n) (cond (is_some one) (Some 1) None))
first_or_one None n one h found = rw found (omega arith)
first_or_one (Some mark) n one h found = h

mark_fits : (text rest : List ℕ) → IsSome (entry text marks) → is_mark_like text ≡ true → AtMost (length text) (mark_len (text ++ rest))
unfolding mark_len
mark_fits [] rest found like = absurd (false≢true like)
mark_fits (b ∷ []) rest found like = first_or_one (entry (take 2 (b ∷ rest)) marks) (length (take 2 (b ∷ rest))) (entry (b ∷ []) marks) (omega (arith, length-take 2 (b ∷ rest))) found
mark_fits (b ∷ c ∷ []) rest found like = rw found (omega arith)
mark_fits (b ∷ c ∷ d ∷ more) rest found like = absurd (false≢true like)

string_fits : (quote : ℕ) (inside text rest : List ℕ) → text ≡ quote ∷ inside ++ quote ∷ [] → is_quote quote ≡ true → is_inside quote false inside ≡ true → AtMost (length text) (piece_len StringShape (text ++ rest))
string_fits quote inside text rest e q h =
    let all : text ++ rest ≡ quote ∷ (inside ++ quote ∷ rest) = ap (λ t. t ++ rest) e ∙ ap (λ t. quote ∷ t) (append_assoc inside (quote ∷ []) rest) in
    let size : length text ≡ suc (length inside + 1) = ap length e ∙ ap suc (length-append inside (quote ∷ [])) in
    let found : piece_len StringShape (text ++ rest) ≡ Some (suc (length inside + 1)) = ap (piece_len StringShape) all ∙ ap (option_map suc) (closing_fits quote false inside rest q h) in
    rw found (omega arith)

pub fit : (s : Shape) (text rest : List ℕ) → IsShape s text → AtMost (length text) (piece_len s (text ++ rest))
fit Space text rest e = rw e (omega arith)
fit Tab text rest e = rw e (omega arith)
fit Comment text rest (more, e, h) = run_covers (λ b. not (is_line_feed b)) text rest (rw e h)
fit LineEnd text rest h = line_end_fits text rest h
fit Joint text rest (end, e, h) = joint_fits text rest end e h
fit MarkShape text rest h = mark_fits text rest h (passes is_mark_like marks text marks_are_like h)
fit NameShape text rest h = run_covers is_name_byte text rest (name_passes text h)
fit NumberShape text rest h = number_fits text rest h
fit StringShape text rest (quote, inside, chars, e, q, h) = string_fits quote inside text rest e q (inside_test quote inside chars h)
