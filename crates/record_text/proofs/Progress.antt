-- Reading line after line, and what is known of a text when reading stops.
use Rattle.std.proofs.Common.{◌≡◌, refl, sym, ◌∙◌, subst, ℕ, ◌+◌, true, List, [], ◌∷◌, ◌++◌, length, Option, Some, None, Result, Ok, Err, IfErr, arith}
use Rattle.std.specs.Result.{IsErrAnd}
use Rattle.std.proofs.lemmas.List.{length-append}
use Rattle.record_text.specs.TextLines.{TextLine}
use Rattle.record_text.specs.declared.found.Wanted.{Wanted}
use Rattle.record_text.specs.declared.stop.VerifyStop.{VerifyStop}
use Rattle.record_text.specs.declared.stop.VerifyStop.TheVariants as V
use Rattle.record_text.specs.Lines.{spelled, text_of}
use Rattle.record_text.specs.Source.{rest_of, Gives}
use Rattle.record_text.specs.Reader.{wants, NoneWanted, Reading, GivesLine, Stops}
use Rattle.record_text.specs.Text.{MayBegin, IsFirstBadLine}
use Rattle.record_text.specs.Progress.{fresh, HasRead, Stopped}
use Rattle.record_text.proofs.Reading.{gives_nothing, gives_then, left_after, too_long_before, within_before}
use Rattle.record_text.proofs.Texts.{text_both, short_both}
use Rattle.record_text.proofs.Refusing.{NoEnd, bad_line}

pub has_read_none : (x : Reading) (l : Option (List ℕ)) → HasRead [] x x l l
has_read_none x l = record { short = tt; gives = gives_nothing x.unread l; counted = omega arith }

pub has_read_more : (ls : List TextLine) (line : TextLine) (wanted : Wanted) (x y z : Reading) (l m n : Option (List ℕ)) → HasRead ls x y l m → GivesLine line wanted y z m n
    → HasRead (ls ++ line ∷ []) x z l n
has_read_more ls line wanted x y z l m n r g = record {
  short = short_both ls (line ∷ []) r.short (g.short, tt);
  gives = subst (λ (bs : List ℕ). Gives bs x.unread z.unread l n) (sym (text_both ls (line ∷ [])))
      (gives_then (text_of ls) (spelled line ++ 10 ∷ []) x.unread y.unread z.unread l m n r.gives g.gives);
  counted = omega (arith, r.counted, g.counted, length-append ls (line ∷ []));
}

pub has_read_then : (ls ms : List TextLine) (x y z : Reading) (l m n : Option (List ℕ)) → HasRead ls x y l m → HasRead ms y z m n → HasRead (ls ++ ms) x z l n
has_read_then ls ms x y z l m n r s = record {
  short = short_both ls ms r.short s.short;
  gives = subst (λ (bs : List ℕ). Gives bs x.unread z.unread l n) (sym (text_both ls ms)) (gives_then (text_of ls) (text_of ms) x.unread y.unread z.unread l m n r.gives s.gives);
  counted = omega (arith, r.counted, s.counted, length-append ls ms);
}

-- what a fresh reader has before it is what is left
pub fresh_rest : (l : Option (List ℕ)) (text : List ℕ) → l ≡ Some text → rest_of fresh.unread l ≡ Some text
fresh_rest None text e = let never : ⊥ = cc in absurd never
fresh_rest (Some bytes) text e = e

pub rest_then : (a : List ℕ) (y : Reading) (l m : Option (List ℕ)) (text : List ℕ) → Gives a fresh.unread y.unread l m → l ≡ Some text
    → (rest : List ℕ) × (rest_of y.unread m ≡ Some rest) × (text ≡ a ++ rest)
rest_then a y l m text g e = left_after a (rest_of y.unread m) text (sym g.rest ∙ fresh_rest l text e)

-- reading stopped after these lines, at which one that is wanted was to come
pub stopped : (lines : List TextLine) (wanted : Wanted) (y : Reading) (l m n : Option (List ℕ)) → HasRead lines fresh y l m → MayBegin lines → NoEnd lines
    → ((line : TextLine) → MayBegin (lines ++ line ∷ []) → wants wanted line ≡ true) → (stop : VerifyStop) → Stops stop (NoneWanted wanted) y m n → Stopped stop l n
stopped lines wanted y l m n r b no_end next V.Shelf s = tt
stopped lines wanted y l m n r b no_end next V.TooLong s = λ text e. omega (arith, too_long_before (text_of lines) fresh.unread y.unread l m r.gives s text (fresh_rest l text e))
stopped lines wanted y l m n r b no_end next (V.BadLine k) s = (
  λ text e.
      let t = rest_then (text_of lines) y l m text r.gives e in
      let number : length lines + 1 ≡ k = omega (arith, s.0.number, r.counted) in (
        subst (IsFirstBadLine text) number (bad_line lines wanted text t.0 b no_end next t.2 (s.0.because t.0 t.1)),
        omega (arith, within_before (text_of lines) fresh.unread y.unread l m r.gives s.0.within text (fresh_rest l text e)),
      ),
  s.1,
  let may = s.0.may_come in
      let number : length lines + 1 ≡ k = omega (arith, s.0.number, r.counted) in
      record {
        text = text_of lines ++ may.bytes;
        bad = subst (IsFirstBadLine (text_of lines ++ may.bytes)) number (bad_line lines wanted (text_of lines ++ may.bytes) may.bytes b no_end next refl may.because);
        within = omega (arith, may.few, r.gives.given, length-append (text_of lines) may.bytes);
      },
)
stopped lines wanted y l m n r b no_end next V.Memory s = tt

pub exit : {A : Type 0} (r : Result A VerifyStop) (stop : VerifyStop) (l n : Option (List ℕ)) → IsErrAnd r (λ e. e ≡ stop) → Stopped stop l n → IfErr r (λ e. Stopped e l n)
exit (Ok a) stop l n h s = absurd h
exit (Err e) stop l n h s = subst (λ (v : VerifyStop). Stopped v l n) (sym h) s

-- the same at an exit, where reading began with a fresh reader
pub stopped_exit : {A : Type 0} (r : Result A VerifyStop) (stop : VerifyStop) (lines : List TextLine) (wanted : Wanted) (x y : Reading) (l m n : Option (List ℕ)) → x ≡ fresh → HasRead lines x y l m
    → MayBegin lines → NoEnd lines → ((line : TextLine) → MayBegin (lines ++ line ∷ []) → wants wanted line ≡ true) → IsErrAnd r (λ e. e ≡ stop) → Stops stop (NoneWanted wanted) y m n
    → IfErr r (λ e. Stopped e l n)
stopped_exit r stop lines wanted x y l m n is read b no_end next same s =
    exit r stop l n same (stopped lines wanted y l m n (subst (λ (a : Reading). HasRead lines a y l m) is read) b no_end next stop s)
