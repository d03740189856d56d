-- A text has one first bad line at most, and none where it is a record's.
use Rattle.std.specs.Prelude.{nat_lt}
use Rattle.std.proofs.lemmas.Bool.{ltb-true}
use Rattle.std.proofs.Common.{◌≡◌, refl, sym, ap, ◌∙◌, subst, ℕ, ◌<◌, ◌≤◌, Bool, true, false, List, [], ◌∷◌, ◌++◌, length, take, drop, arith, append_assoc}
use Rattle.std.proofs.lemmas.List.{take-append-drop, length-take-le, length-append}
use Rattle.record_text.specs.TextLines.{TextLine}
use Rattle.record_text.specs.Lines.{text_of}
use Rattle.record_text.specs.Text.{MayBegin, IsGoodFor, IsFirstBadLine}
use Rattle.record_text.proofs.Texts.{text_both}

-- where more lines may begin a text, the first of them may
fewer_begin : (ls ms : List TextLine) → MayBegin (ls ++ ms) → (ms ≡ [] → ⊥) → MayBegin ls
fewer_begin ls ms b some_ = record {
  claim = b.claim;
  tree = b.tree;
  form = b.form;
  before_end = b.before_end;
  later = ms ++ b.later;
  whole = b.whole ∙ append_assoc ls ms b.later;
  at_end = λ e. absurd (some_ (front ms b.later e));
}
  where
    front : (xs ys : List TextLine) → xs ++ ys ≡ [] → xs ≡ []
    front [] ys e = refl
    front (x ∷ xs) ys e = cc

pub good_for_fewer : (text : List ℕ) (j k : ℕ) → j < k → IsGoodFor text k → IsGoodFor text j
good_for_fewer text j k less g = record {
  lines = take j g.lines;
  count = length-take-le j g.lines (omega (arith, less, g.count));
  rest = text_of (drop j g.lines) ++ g.rest;
  spelled = g.spelled ∙ (ap (λ (ls : List TextLine). text_of ls ++ g.rest) (sym (take-append-drop j g.lines))
      ∙ (ap (λ (bs : List ℕ). bs ++ g.rest) (text_both (take j g.lines) (drop j g.lines)) ∙ append_assoc (text_of (take j g.lines)) (text_of (drop j g.lines)) g.rest));
  may_begin = fewer_begin (take j g.lines) (drop j g.lines) (subst MayBegin (sym (take-append-drop j g.lines)) g.may_begin)
      (λ e. let never : ⊥ = omega (
        arith,
        less,
        g.count,
        length-take-le j g.lines (omega (arith, less, g.count)),
        ap (λ (ls : List TextLine). length ls) e,
        ap (λ (ls : List TextLine). length ls) (take-append-drop j g.lines),
        length-append (take j g.lines) (drop j g.lines),
      ) in never);
}

good_up_to : (text : List ℕ) (j k : ℕ) → j ≤ k → IsGoodFor text k → IsGoodFor text j
good_up_to text j k less g = by_test (nat_lt j k) refl
  where
    by_test : (b : Bool) → nat_lt j k ≡ b → IsGoodFor text j
    by_test true e = good_for_fewer text j k (ltb-true j k e) g
    by_test false e = let same : k ≡ j = (let m : k ≤ j = grind (arith) in omega (arith, m, less)) in subst (IsGoodFor text) same g

no_less : (text : List ℕ) (j k : ℕ) → IsFirstBadLine text j → IsFirstBadLine text k → j < k → ⊥
no_less text j k a b less = a.bad_here (good_up_to text j b.before (omega (arith, less, b.number)) b.good_before)

pub one_bad_line : (text : List ℕ) (j k : ℕ) → IsFirstBadLine text j → IsFirstBadLine text k → j ≡ k
one_bad_line text j k a b = by_tests (nat_lt j k) (nat_lt k j) refl refl
  where
    by_tests : (s t : Bool) → nat_lt j k ≡ s → nat_lt k j ≡ t → j ≡ k
    by_tests true t e f = absurd (no_less text j k a b (ltb-true j k e))
    by_tests false true e f = absurd (no_less text k j b a (ltb-true k j f))
    by_tests false false e f = let m : k ≤ j = grind (arith) in let n : j ≤ k = grind (arith) in omega (arith, m, n)
