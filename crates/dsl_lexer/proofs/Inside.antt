-- What stands between quotes, as a relation and as a walk.
use Rattle.std.proofs.Common.{◌≡◌, ℕ, suc, ◌-◌, Bool, true, false, cond, ◌&&◌, not, inl, inr, List, [], ◌∷◌, ◌++◌, length, take, refl, ap, sym, ◌∙◌, subst, arith}
use Rattle.std.specs.Prelude.{◌==◌, IsTrue}
use Rattle.std.proofs.lemmas.Bool.{and_parts, and_from, false≢true, eqb-true, not-true}
use Rattle.std.proofs.lemmas.List.{length-append, take_at}
use Rattle.dsl_lexer.specs.Bytes.{is_line_feed, is_backslash, is_escapable}
use Rattle.dsl_lexer.specs.Shapes.{is_plain, IsInside}
use Rattle.dsl_lexer.specs.Kinds.{unescaped}
use Rattle.dsl_lexer.specs.Scan.{is_inside}
use Rattle.dsl_lexer.specs.Laws.{CharsLaw}

-- the three tests of a plain byte
plain_parts : (quote c : ℕ) → is_plain quote c ≡ true → ((c == quote) ≡ false) × (is_backslash c ≡ false) × (is_line_feed c ≡ false)
plain_parts quote c h =
    let parts = and_parts (not (c == quote) && not (is_backslash c)) (not (is_line_feed c)) h in
    let first = and_parts (not (c == quote)) (not (is_backslash c)) parts.0 in
    (not-true (c == quote) first.0, not-true (is_backslash c) first.1, not-true (is_line_feed c) parts.1)

pub inside_test : (quote : ℕ) (inside chars : List ℕ) → IsInside quote inside chars → is_inside quote false inside ≡ true
inside_test quote inside [] h = rw h refl
inside_test quote inside (c ∷ chars) (rest, inl (e, plain), more) =
    let parts = plain_parts quote c plain in
    let later = inside_test quote rest chars more in
    rw (e, parts.0, parts.1, parts.2, later) refl
inside_test quote inside (c ∷ chars) (rest, inr (e, escapable), more) =
    let later = inside_test quote rest chars more in
    rw (e, escapable, later) refl

inside_unescaped : (quote : ℕ) (inside chars : List ℕ) → IsInside quote inside chars → unescaped false inside ≡ chars
inside_unescaped quote inside [] h = rw h refl
inside_unescaped quote inside (c ∷ chars) (rest, inl (e, plain), more) =
    let parts = plain_parts quote c plain in
    rw (e, parts.1) (ap (λ t. c ∷ t) (inside_unescaped quote rest chars more))
inside_unescaped quote inside (c ∷ chars) (rest, inr (e, escapable), more) = rw e (ap (λ t. c ∷ t) (inside_unescaped quote rest chars more))

-- after a backslash stands an escapable byte
abbrev Tested : ℕ → Bool → List ℕ → Type 0
Tested quote false inside = IsInside quote inside (unescaped false inside)
Tested quote true inside = (c : ℕ) × (rest : List ℕ) × (inside ≡ c ∷ rest) × IsTrue (is_escapable c) × IsInside quote rest (unescaped false rest)

plain_go : (quote b : ℕ) (more : List ℕ) (t : Bool) → is_backslash b ≡ t → cond t (is_inside quote true more) (not (b == quote) && not (is_line_feed b) && is_inside quote false more) ≡ true
    → (is_inside quote true more ≡ true → Tested quote true more) → (is_inside quote false more ≡ true → Tested quote false more) → IsInside quote (b ∷ more) (cond t (unescaped true more) (b ∷ unescaped false more))
plain_go quote b more true e h x y =
    let (c, rest, split, escapable, later) = x h in
    let z : b ≡ 92 = eqb-true b 92 e in
    let chars : unescaped true more ≡ c ∷ unescaped false rest = ap (unescaped true) split in
    subst (IsInside quote (b ∷ more)) (sym chars) (rest, inr (ap (λ n. n ∷ more) z ∙ ap (λ t. 92 ∷ t) split, escapable), later)
plain_go quote b more false e h x y =
    let parts = and_parts (not (b == quote) && not (is_line_feed b)) (is_inside quote false more) h in
    let first = and_parts (not (b == quote)) (not (is_line_feed b)) parts.0 in
    let plain : is_plain quote b ≡ true = and_from (not (b == quote) && not (is_backslash b)) (not (is_line_feed b)) (and_from (not (b == quote)) (not (is_backslash b)) first.0 (rw e refl)) first.1 in
    (more, inl (refl, plain), y parts.1)

tested : (quote : ℕ) (escaped : Bool) (inside : List ℕ) → is_inside quote escaped inside ≡ true → Tested quote escaped inside
tested quote true [] h = absurd (false≢true h)
tested quote false [] h = refl
tested quote true (b ∷ more) h =
    let parts = and_parts (is_escapable b) (is_inside quote false more) h in
    (b, more, refl, parts.0, tested quote false more parts.1)
tested quote false (b ∷ more) h = plain_go quote b more (is_backslash b) refl h (λ i. tested quote true more i) (λ i. tested quote false more i)

pub test_inside : (quote : ℕ) (inside : List ℕ) → is_inside quote false inside ≡ true → IsInside quote inside (unescaped false inside)
test_inside quote inside h = tested quote false inside h

pub chars_law : CharsLaw
chars_law quote inside chars h =
    let size : suc (length (inside ++ quote ∷ [])) - 2 ≡ length inside = omega (arith, length-append inside (quote ∷ [])) in
    ap (unescaped false) (ap (λ n. take n (inside ++ quote ∷ [])) size ∙ take_at inside (quote ∷ []) (length inside) refl) ∙ inside_unescaped quote inside chars h
