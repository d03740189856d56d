-- Lines and columns from one offset to a later one.
use Rattle.std.proofs.Common.{◌≡◌, ℕ, ◌+◌, ◌-◌, Bool, true, false, cond, ◌&&◌, not, inl, inr, List, [], ◌∷◌, ◌++◌, length, take, reverse, refl, ap, sym, ◌∙◌, arith}
use Rattle.std.specs.Prelude.{filter, ◌==◌}
use Rattle.std.specs.List.{list_all, prefix_len, suffix_len, after_last}
use Rattle.std.proofs.lemmas.Bool.{and_parts, and_from, not-true, false≢true, eqb-true}
use Rattle.std.proofs.lemmas.List.{append_assoc, length-append, take_at, length-drop, reverse-append, length-reverse}
use Rattle.std.proofs.lemmas.List.Folds.{list_all-append}
use Rattle.std.proofs.lemmas.List.Sums.{suffix_len-le-length}
use Rattle.dsl_lexer.specs.Scan.{is_inside}
use Rattle.dsl_lexer.specs.Progress.{IsSpot}
use Rattle.dsl_lexer.specs.declared.spot.Spot.{Spot}
use Rattle.dsl_lexer.specs.declared.shape.Shape.{Shape}
use Rattle.dsl_lexer.specs.Bytes.{is_name_byte, is_quote, is_line_feed, is_backslash, is_escapable, line_at, column_at}
use Rattle.dsl_lexer.specs.Shapes.{Space, Tab, Comment, LineEnd, Joint, MarkShape, NameShape, NumberShape, StringShape, marks, IsLineEnd, IsShape}
use Rattle.dsl_lexer.specs.Steps.{moved, on_next_line}
use Rattle.dsl_lexer.proofs.Tables.{passes}
use Rattle.dsl_lexer.proofs.Inside.{inside_test}
use Rattle.dsl_lexer.proofs.Fitting.{name_passes, run_passes, digits_pass, digits_are_name_bytes}

abbrev pub no_feed : ℕ → Bool
no_feed b = not (is_line_feed b)

-- the length of the last line

length-after_last : (xs : List ℕ) → length (after_last is_line_feed xs) ≡ suffix_len no_feed xs
length-after_last xs = omega (arith, length-drop (length xs - suffix_len no_feed xs) xs, suffix_len-le-length no_feed xs)

run_over : (p : ℕ → Bool) (xs ys : List ℕ) → list_all p xs ≡ true → prefix_len p (xs ++ ys) ≡ length xs + prefix_len p ys
run_over p [] ys h = omega arith
run_over p (x ∷ xs) ys h =
    let parts = and_parts (p x) (list_all p xs) h in
    let rest = run_over p xs ys parts.1 in
    rw (parts.0, rest) (omega arith)

all_reverse : (p : ℕ → Bool) (xs : List ℕ) → list_all p xs ≡ true → list_all p (reverse xs) ≡ true
all_reverse p [] h = refl
all_reverse p (x ∷ xs) h =
    let parts = and_parts (p x) (list_all p xs) h in
    rw (reverse-append (x ∷ []) xs) (list_all-append p (reverse xs) (x ∷ []) ∙ and_from _ _ (all_reverse p xs parts.1) (and_from (p x) true parts.0 refl))

suffix_over : (xs ys : List ℕ) → list_all no_feed ys ≡ true → suffix_len no_feed (xs ++ ys) ≡ length ys + suffix_len no_feed xs
suffix_over xs ys h =
    ap (prefix_len no_feed) (reverse-append xs ys) ∙ run_over no_feed (reverse ys) (reverse xs) (all_reverse no_feed ys h) ∙ ap (λ n. n + suffix_len no_feed xs) (length-reverse ys)

suffix_new : (xs : List ℕ) → suffix_len no_feed (xs ++ 10 ∷ []) ≡ 0
suffix_new xs = ap (prefix_len no_feed) (reverse-append xs (10 ∷ []))

-- the number of line feeds

feeds_over : (xs ys : List ℕ) → length (filter is_line_feed (xs ++ ys)) ≡ length (filter is_line_feed xs) + length (filter is_line_feed ys)
feeds_over [] ys = omega arith
feeds_over (x ∷ xs) ys = go (is_line_feed x) (feeds_over xs ys)
  where
    go : (t : Bool) → length (filter is_line_feed (xs ++ ys)) ≡ length (filter is_line_feed xs) + length (filter is_line_feed ys)
        → length (cond t (x ∷ filter is_line_feed (xs ++ ys)) (filter is_line_feed (xs ++ ys))) ≡ length (cond t (x ∷ filter is_line_feed xs) (filter is_line_feed xs)) + length (filter is_line_feed ys)
    go true e = omega arith
    go false e = e

no_feeds : (xs : List ℕ) → list_all no_feed xs ≡ true → length (filter is_line_feed xs) ≡ 0
no_feeds [] h = refl
no_feeds (x ∷ xs) h = let parts = and_parts (no_feed x) (list_all no_feed xs) h in rw (not-true (is_line_feed x) parts.0) (no_feeds xs parts.1)

-- on from one spot to another

module _ (bytes front text behind : List ℕ) (split : bytes ≡ front ++ (text ++ behind)) where
  taken : take (length front + length text) bytes ≡ front ++ text
  taken = ap (take (length front + length text)) (split ∙ sym (append_assoc front text behind)) ∙ take_at (front ++ text) behind (length front + length text) (length-append front text)

  before_it : take (length front) bytes ≡ front
  before_it = ap (take (length front)) split ∙ take_at front (text ++ behind) (length front) refl

  line_over : line_at bytes (length front + length text) ≡ line_at bytes (length front) + length (filter is_line_feed text)
  line_over = rw (taken, before_it) (let e = feeds_over front text in omega arith)

  column_over : list_all no_feed text ≡ true → column_at bytes (length front + length text) ≡ column_at bytes (length front) + length text
  column_over h = rw (taken, before_it) (let a = length-after_last (front ++ text) in let b = length-after_last front in let e = suffix_over front text h in omega arith)

  pub spot_over : (s : Spot) → IsSpot bytes (length front) s → list_all no_feed text ≡ true → IsSpot bytes (length front + length text) (moved s (length text))
  spot_over s is h =
      let a = is.at in let l = is.line in let c = is.column in
      let lines = line_over in let columns = column_over h in let none = no_feeds text h in
      record { at = omega arith; line = l ∙ omega arith; column = ap (λ n. n + length text) c ∙ sym columns }

pub spot_below : (bytes front inner : List ℕ) (behind : List ℕ) (s : Spot) → bytes ≡ front ++ (inner ++ 10 ∷ behind) → IsSpot bytes (length front) s → list_all no_feed inner ≡ true
    → IsSpot bytes (length front + (length inner + 1)) (on_next_line s (length inner + 1))
spot_below bytes front inner behind s split is h =
    let all : bytes ≡ front ++ ((inner ++ 10 ∷ []) ++ behind) = split ∙ ap (λ t. front ++ t) (sym (append_assoc inner (10 ∷ []) behind)) in
    let size : length (inner ++ 10 ∷ []) ≡ length inner + 1 = length-append inner (10 ∷ []) in
    let a = is.at in let l = is.line in
    let lines : line_at bytes (length front + length (inner ++ 10 ∷ [])) ≡ line_at bytes (length front) + length (filter is_line_feed (inner ++ 10 ∷ [])) = line_over bytes front (inner ++ 10 ∷ []) behind all in
    let one : length (filter is_line_feed (inner ++ 10 ∷ [])) ≡ 1 = feeds_over inner (10 ∷ []) ∙ ap (λ n. n + 1) (no_feeds inner h) in
    let whole : take (length front + length (inner ++ 10 ∷ [])) bytes ≡ front ++ (inner ++ 10 ∷ []) = taken bytes front (inner ++ 10 ∷ []) behind all in
    let columns : column_at bytes (length front + length (inner ++ 10 ∷ [])) ≡ 1 =
    ap (λ t. 1 + length (after_last is_line_feed t)) (whole ∙ sym (append_assoc front inner (10 ∷ []))) ∙ ap (λ n. 1 + n) (length-after_last ((front ++ inner) ++ 10 ∷ []) ∙ suffix_new (front ++ inner)) in
    rw (← size) (record { at = rw size (omega arith); line = l' l lines one; column = sym columns })
  where
    l' : (l : s.line ≡ line_at bytes (length front)) → line_at bytes (length front + length (inner ++ 10 ∷ [])) ≡ line_at bytes (length front) + length (filter is_line_feed (inner ++ 10 ∷ [])) → length (filter is_line_feed (inner ++ 10 ∷ [])) ≡ 1
        → s.line + 1 ≡ line_at bytes (length front + length (inner ++ 10 ∷ []))
    l' l lines one = omega arith

-- line feeds in pieces

all_by : (p q : ℕ → Bool) (xs : List ℕ) → ((b : ℕ) → p b ≡ true → q b ≡ true) → list_all p xs ≡ true → list_all q xs ≡ true
all_by p q [] h all = refl
all_by p q (x ∷ xs) h all = let parts = and_parts (p x) (list_all p xs) all in and_from (q x) (list_all q xs) (h x parts.0) (all_by p q xs h parts.1)

not_ten : (p : ℕ → Bool) (b : ℕ) → p 10 ≡ false → p b ≡ true → no_feed b ≡ true
not_ten p b off on = go (is_line_feed b) refl
  where
    go : (t : Bool) → is_line_feed b ≡ t → not t ≡ true
    go false e = refl
    go true e = absurd (false≢true (sym off ∙ ap p (sym (eqb-true b 10 e)) ∙ on))

inside_no_feed : (quote : ℕ) (escaped : Bool) (inside : List ℕ) → is_inside quote escaped inside ≡ true → list_all no_feed inside ≡ true
inside_no_feed quote escaped [] h = refl
inside_no_feed quote true (b ∷ more) h =
    let parts = and_parts (is_escapable b) (is_inside quote false more) h in
    and_from (no_feed b) (list_all no_feed more) (not_ten is_escapable b refl parts.0) (inside_no_feed quote false more parts.1)
inside_no_feed quote false (b ∷ more) h =
    go (is_backslash b) refl h (λ i. inside_no_feed quote true more i) (λ i. inside_no_feed quote false more i)
  where
    go : (t : Bool) → is_backslash b ≡ t → cond t (is_inside quote true more) (not (b == quote) && not (is_line_feed b) && is_inside quote false more) ≡ true
        → (is_inside quote true more ≡ true → list_all no_feed more ≡ true) → (is_inside quote false more ≡ true → list_all no_feed more ≡ true) → list_all no_feed (b ∷ more) ≡ true
    go true e h x y = and_from (no_feed b) (list_all no_feed more) (not_ten is_backslash b refl e) (x h)
    go false e h x y =
        let parts = and_parts (not (b == quote) && not (is_line_feed b)) (is_inside quote false more) h in
        and_from (no_feed b) (list_all no_feed more) (and_parts (not (b == quote)) (not (is_line_feed b)) parts.0).1 (y parts.1)

quote_no_feed : (quote : ℕ) → is_quote quote ≡ true → no_feed quote ≡ true
quote_no_feed quote h = not_ten is_quote quote refl h

-- a shape whose pieces stand within one line
abbrev pub is_flat : Shape → Bool
is_flat LineEnd = false
is_flat Joint = false
is_flat _ = true

name_bytes_flat : (text : List ℕ) → list_all is_name_byte text ≡ true → list_all no_feed text ≡ true
name_bytes_flat text h = all_by is_name_byte no_feed text (λ b on. not_ten is_name_byte b refl on) h

pub flat : (s : Shape) (text : List ℕ) → is_flat s ≡ true → IsShape s text → list_all no_feed text ≡ true
flat Space text f e = rw e refl
flat Tab text f e = rw e refl
flat Comment text f (more, e, h) = rw e h
flat LineEnd text f h = absurd (false≢true f)
flat Joint text f h = absurd (false≢true f)
flat MarkShape text f h = passes (λ t. list_all no_feed t) marks text refl h
flat NameShape text f h = name_bytes_flat text (name_passes text h)
flat NumberShape text f (inl h) = name_bytes_flat text (run_passes text h)
flat NumberShape text f (inr (whole, more, e, digits, run)) =
    rw (e, list_all-append no_feed whole (46 ∷ more)) (and_from (list_all no_feed whole) (list_all no_feed more) (name_bytes_flat whole (digits_are_name_bytes whole (digits_pass whole digits))) (name_bytes_flat more (run_passes more run)))
flat StringShape text f (quote, inside, chars, e, q, i) =
    rw e (and_from (no_feed quote) (list_all no_feed (inside ++ quote ∷ [])) (quote_no_feed quote q)
    (list_all-append no_feed inside (quote ∷ []) ∙ and_from (list_all no_feed inside) (no_feed quote && true) (inside_no_feed quote false inside (inside_test quote inside chars i)) (and_from (no_feed quote) true (quote_no_feed quote q) refl)))

-- a piece with a line feed has it at its end
pub record Ends (text : List ℕ) : Type 0 where
  pub inner : List ℕ
  pub split : text ≡ inner ++ 10 ∷ []
  pub flat : list_all no_feed inner ≡ true

pub line_end_ends : (text : List ℕ) → IsLineEnd text → Ends text
line_end_ends text (inl e) = record { inner = []; split = e; flat = refl }
line_end_ends text (inr e) = record { inner = 13 ∷ []; split = e; flat = refl }

pub joint_ends : (text end : List ℕ) → text ≡ 92 ∷ end → IsLineEnd end → Ends text
joint_ends text end e (inl f) = record { inner = 92 ∷ []; split = e ∙ ap (λ t. 92 ∷ t) f; flat = refl }
joint_ends text end e (inr f) = record { inner = 92 ∷ 13 ∷ []; split = e ∙ ap (λ t. 92 ∷ t) f; flat = refl }
