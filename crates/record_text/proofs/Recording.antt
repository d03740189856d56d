-- A record as it is written, line by line, in the words of the loop.
use Rattle.std.proofs.Common.{◌≡◌, refl, sym, ap, ◌∙◌, subst, ℕ, ◌-◌, ◌<◌, ◌≤◌, List, [], ◌∷◌, ◌++◌, length, take, drop, get_or, Option, Result, Ok, Err, OnErr, OnOk, arith, length-drop}
use Rattle.outside_io.specs.Bytes.{AppendsPart}
use Rattle.outside_io.specs.declared.loops.SinkStop.{SinkStop}
use Rattle.linear_sums.specs.declared.pick.Pick.{Pick}
use Rattle.record_trees.specs.declared.record.Line.{Line}
use Rattle.record_trees.specs.declared.record.Record.{Record}
use Rattle.record_text.specs.Lines.{IsShort, AllShort, spelled, text_of}
use Rattle.record_text.specs.Text.{taken, line_with, record_text, IsWritable, HasOwnText}
use Rattle.record_text.specs.Written.{HaveShortValues, HaveSums, header_lines, Puts}
use Rattle.record_text.proofs.Lines.{take_short}
use Rattle.record_text.proofs.Putting.{first_there}
use Rattle.record_text.proofs.Texts.{own_text}
use Rattle.record_text.proofs.Writing.{IsLeft, header_left, line_left, line_fails, all_short, writable}

pub record_begun : (claim : Record) (lines : List Line) (picks : List Pick) (before : Option (List ℕ)) (page : List ℕ) → lines ≡ claim.lines → picks ≡ claim.picks
    → page ≡ text_of (header_lines claim) → AllShort (header_lines claim) → HaveShortValues claim.lines → HaveSums claim.lines claim.picks → IsLeft claim lines picks before before page
record_begun claim lines picks before page same_lines same_picks is short values sums =
    subst (λ (ls : List Line). IsLeft claim ls picks before before page) (sym same_lines)
    (subst (λ (ps : List Pick). IsLeft claim claim.lines ps before before page) (sym same_picks) (header_left claim before page is short values sums))

left_all : (k : ℕ) (ps : List Pick) → take (length ps - k) (drop k ps) ≡ drop k ps
left_all k ps = take_short (length ps - k) (drop k ps) (omega (arith, length-drop k ps))

module _ (claim : Record) (lines : List Line) (none : Line) (picks : List Pick) (before c : Option (List ℕ)) (p : List ℕ) (a : IsLeft claim lines picks before c p) (some_ : 1 ≤ length lines)
    (count : ℕ) (counts : count ≡ taken (get_or lines 0 none)) where
  pub line_kept : (d : Option (List ℕ)) (q : List ℕ) (shown : List Pick) → IsShort (line_with (get_or lines 0 none) shown)
      → Puts (spelled (line_with (get_or lines 0 none) shown) ++ 10 ∷ []) c p d q → shown ≡ take count picks
      → IsLeft claim (take (length lines - 1) (drop 1 lines)) (take (length picks - count) (drop count picks)) before d q
  line_kept d q shown short t is =
      let same : shown ≡ take (taken (get_or lines 0 none)) picks = is ∙ ap (λ (k : ℕ). take k picks) counts in
      let left_is : take (length picks - count) (drop count picks) ≡ drop (taken (get_or lines 0 none)) picks = left_all count picks ∙ ap (λ (k : ℕ). drop k picks) counts in
      subst (λ (ps : List Pick). IsLeft claim (take (length lines - 1) (drop 1 lines)) ps before d q) (sym left_is)
      (line_left claim lines (get_or lines 0 none) picks before c p a some_ (first_there lines none some_) d q
      (subst (λ (ps : List Pick). IsShort (line_with (get_or lines 0 none) ps)) same short)
      (subst (λ (ps : List Pick). Puts (spelled (line_with (get_or lines 0 none) ps) ++ 10 ∷ []) c p d q) same t))

  pub line_stops : (d : Option (List ℕ)) (shown : List Pick) → AppendsPart c d (p ++ (spelled (line_with (get_or lines 0 none) shown) ++ 10 ∷ [])) → shown ≡ take count picks
      → AppendsPart before d (record_text claim)
  line_stops d shown part is =
      let same : shown ≡ take (taken (get_or lines 0 none)) picks = is ∙ ap (λ (k : ℕ). take k picks) counts in
      line_fails claim lines (get_or lines 0 none) picks before c p a some_ (first_there lines none some_) d
      (subst (λ (ps : List Pick). AppendsPart c d (p ++ (spelled (line_with (get_or lines 0 none) ps) ++ 10 ∷ []))) same part)

pub may_write : (claim : Record) (lines : List Line) (picks : List Pick) (before c : Option (List ℕ)) (p : List ℕ) → IsLeft claim lines picks before c p → length lines < 1
    → HaveSums claim.lines claim.picks → IsWritable claim
may_write claim lines picks before c p a none sums = writable claim sums (all_short claim lines picks before c p a none)

pub has_own : (claim : Record) (lines : List Line) (picks : List Pick) (before c : Option (List ℕ)) (p : List ℕ) → IsLeft claim lines picks before c p → length lines < 1
    → HaveSums claim.lines claim.picks → HasOwnText claim
has_own claim lines picks before c p a none sums = own_text claim (may_write claim lines picks before c p a none sums)
