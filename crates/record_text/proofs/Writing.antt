-- A record's text as it is written, page by page.
use Rattle.std.proofs.Common.{◌≡◌, refl, sym, ap, ◌∙◌, subst, ℕ, ◌+◌, ◌-◌, ◌<◌, ◌≤◌, true, List, [], ◌∷◌, ◌++◌, length, map, take, drop, get_or, min, Option, Some, None, Result, Ok, Err, OnErr, OnOk, arith, append_assoc, length-drop}
use Rattle.std.specs.Prelude.{codes}
use Rattle.std.specs.Io.KnownBytes.{append_known}
use Rattle.std.proofs.lemmas.List.{append-nil, take_min, take-append-le, length-take-le, length-take}
use Rattle.std.proofs.Math.Seq.{take-append-add}
use Rattle.outside_io.specs.Bytes.{AppendsPart}
use Rattle.outside_io.proofs.Pieces.{append_twice}
use Rattle.outside_io.specs.declared.loops.SinkStop.{SinkStop}
use Rattle.linear_sums.specs.declared.pick.Pick.{Pick}
use Rattle.record_trees.specs.declared.record.Line.{Line}
use Rattle.record_trees.specs.declared.record.Line.TheVariants as L
use Rattle.record_trees.specs.declared.record.Record.{Record}
use Rattle.record_trees.specs.Record.{may_stand}
use Rattle.record_text.specs.TextLines.{TextLine}
use Rattle.record_text.specs.TextLines as T
use Rattle.record_text.specs.declared.page.Piece.{Piece}
use Rattle.record_text.specs.Lines.{IsFewDigits, HaveFewDigits, IsShort, AllShort, spelled, spelled_pick, spelled_picks, text_of}
use Rattle.record_text.specs.Pieces.{piece_bytes, IsShortPiece, piece_of}
use Rattle.record_text.specs.Text.{taken, taken_all, with_picks, line_with, text_line, record_lines, record_text, IsWritable}
use Rattle.record_text.specs.Written.{HasShortValue, HaveShortValues, HasSum, HaveSums, header_lines, Puts}
use Rattle.record_text.proofs.PickSteps.{first_and_later, none_if}
use Rattle.record_text.proofs.Texts.{text_both, short_both}

append_nothing : (known : Option (List ℕ)) → known ≡ append_known known []
append_nothing None = refl
append_nothing (Some bytes) = ap Some (sym (append-nil bytes))

-- a text of which some was written, and the rest waits
pub record IsWritten (text : List ℕ) (before now : Option (List ℕ)) (waiting : List ℕ) : Type 0 where
  pub done : List ℕ
  pub written : now ≡ append_known before done
  pub text_is : text ≡ done ++ waiting

pub written_more : (text bytes : List ℕ) (before c d : Option (List ℕ)) (p q : List ℕ) → IsWritten text before c p → Puts bytes c p d q → IsWritten (text ++ bytes) before d q
written_more text bytes before c d p q w t = record {
  done = w.done ++ t.done;
  written = t.written ∙ (ap (λ (k : Option (List ℕ)). append_known k t.done) w.written ∙ append_twice before w.done t.done);
  text_is = ap (λ (bs : List ℕ). bs ++ bytes) w.text_is ∙ (append_assoc w.done p bytes ∙ (ap (λ (bs : List ℕ). w.done ++ bs) t.kept ∙ sym (append_assoc w.done t.done q)));
}

-- a part of what waits is a part of the text, and of every longer one
pub written_part : (text more : List ℕ) (before c d : Option (List ℕ)) (p : List ℕ) → IsWritten text before c p → AppendsPart c d p → AppendsPart before d (text ++ more)
written_part text more before c d p w a =
    let n : ℕ = min a.0 (length p) in (
      length w.done + min a.0 (length p),
      a.1 ∙ (ap (λ (k : Option (List ℕ)). append_known k (take a.0 p)) w.written
          ∙ (append_twice before w.done (take a.0 p) ∙ ap (append_known before) (sym front))),
    )
  where
    few : min a.0 (length p) ≤ length p
    few = omega arith

    front : take (length w.done + min a.0 (length p)) (text ++ more) ≡ w.done ++ take a.0 p
    front = ap (take (length w.done + min a.0 (length p))) (ap (λ (bs : List ℕ). bs ++ more) w.text_is ∙ append_assoc w.done p more)
        ∙ (take-append-add w.done (p ++ more) (min a.0 (length p))
        ∙ ap (λ (bs : List ℕ). w.done ++ bs) (take-append-le (min a.0 (length p)) p more few ∙ take_min a.0 p))

-- all of it was written
pub written_whole : (text : List ℕ) (before c d : Option (List ℕ)) (p : List ℕ) → IsWritten text before c p → d ≡ append_known c p → d ≡ append_known before text
written_whole text before c d p w e =
    e ∙ (ap (λ (k : Option (List ℕ)). append_known k p) w.written ∙ (append_twice before w.done p ∙ ap (append_known before) (sym w.text_is)))

-- ---- putting

pub puts_nothing : (c : Option (List ℕ)) (p : List ℕ) → Puts [] c p c p
puts_nothing c p = record { done = []; written = append_nothing c; kept = append-nil p }

as_written : (a : List ℕ) (c d : Option (List ℕ)) (p q : List ℕ) → Puts a c p d q → IsWritten (p ++ a) c d q
as_written a c d p q t = record { done = t.done; written = t.written; text_is = t.kept }

pub puts_then : (a b : List ℕ) (c d e : Option (List ℕ)) (p q r : List ℕ) → Puts a c p d q → Puts b d q e r → Puts (a ++ b) c p e r
puts_then a b c d e p q r t u =
    let w = written_more (p ++ a) b c d e q r (as_written a c d p q t) u in
    record { done = w.done; written = w.written; kept = sym (append_assoc p a b) ∙ w.text_is }

pub puts_same : (a b : List ℕ) (c d : Option (List ℕ)) (p q : List ℕ) → a ≡ b → Puts a c p d q → Puts b c p d q
puts_same a b c d p q same t = subst (λ (bs : List ℕ). Puts bs c p d q) same t

-- a part of what waits is a part of all that is put
pub part_then : (a more : List ℕ) (c d e : Option (List ℕ)) (p q : List ℕ) → Puts a c p d q → AppendsPart d e q → AppendsPart c e (p ++ (a ++ more))
part_then a more c d e p q t part =
    subst (AppendsPart c e) (append_assoc p a more) (written_part (p ++ a) more c d e q (as_written a c d p q t) part)

pub part_first : (more : List ℕ) (c e : Option (List ℕ)) (p : List ℕ) → AppendsPart c e p → AppendsPart c e (p ++ more)
part_first more c e p part = part_then [] more c c e p p (puts_nothing c p) part

-- a part of what waits and of what was to be put next
pub part_within : (a b more : List ℕ) (c d e : Option (List ℕ)) (p q : List ℕ) → Puts a c p d q → AppendsPart d e (q ++ b) → AppendsPart c e (p ++ (a ++ (b ++ more)))
part_within a b more c d e p q t part = subst (AppendsPart c e) ends (written_part ((p ++ a) ++ b) more c d e (q ++ b) both part)
  where
    both : IsWritten ((p ++ a) ++ b) c d (q ++ b)
    both = record { done = t.done; written = t.written; text_is = ap (λ (bs : List ℕ). bs ++ b) t.kept ∙ append_assoc t.done q b }

    ends : ((p ++ a) ++ b) ++ more ≡ p ++ (a ++ (b ++ more))
    ends = append_assoc (p ++ a) b more ∙ append_assoc p a (b ++ more)

-- ---- the rules of a sum

pub record ArePut (picks rest : List Pick) (c d : Option (List ℕ)) (p q : List ℕ) : Type 0 where
  pub done : List ℕ
  pub puts : Puts done c p d q
  pub whole : spelled_picks picks ≡ done ++ spelled_picks rest
  pub rules : HaveFewDigits rest → HaveFewDigits picks

pub none_put : (picks : List Pick) (c : Option (List ℕ)) (p : List ℕ) → ArePut picks picks c c p p
none_put picks c p = record { done = []; puts = puts_nothing c p; whole = refl; rules = λ h. h }

module _ (picks rest : List Pick) (x : Pick) (c d : Option (List ℕ)) (p q : List ℕ) (a : ArePut picks rest c d p q) (some_ : 1 ≤ length rest) (is : x ≡ get_or rest 0 x) where
  parts : spelled_picks rest ≡ spelled_pick x ++ spelled_picks (take (length rest - 1) (drop 1 rest))
  parts = ap spelled_picks (first_and_later rest x some_ is)

  pub pick_put : (piece : Piece) (e : Option (List ℕ)) (r : List ℕ) → piece_bytes piece ≡ spelled_pick x → IsFewDigits x.rule → Puts (piece_bytes piece) d q e r
      → ArePut picks (take (length rest - 1) (drop 1 rest)) c e p r
  pick_put piece e r bytes few t = record {
    done = a.done ++ spelled_pick x;
    puts = puts_then a.done (spelled_pick x) c d e p q r a.puts (puts_same (piece_bytes piece) (spelled_pick x) d e q r bytes t);
    whole = a.whole ∙ (ap (λ (bs : List ℕ). a.done ++ bs) parts ∙ sym (append_assoc a.done (spelled_pick x) (spelled_picks (take (length rest - 1) (drop 1 rest)))));
    rules = λ h. a.rules (subst HaveFewDigits (sym (first_and_later rest x some_ is)) (few, h));
  }

pub pick_fails : (picks rest : List Pick) (c d e : Option (List ℕ)) (p q : List ℕ) → ArePut picks rest c d p q → AppendsPart d e q → AppendsPart c e (p ++ spelled_picks picks)
pick_fails picks rest c d e p q a part = subst (λ (bs : List ℕ). AppendsPart c e (p ++ bs)) (sym a.whole) (part_then a.done (spelled_picks rest) c d e p q a.puts part)

pub picks_put : (picks rest : List Pick) (c d : Option (List ℕ)) (p q : List ℕ) → ArePut picks rest c d p q → length rest < 1 → Puts (spelled_picks picks) c p d q
picks_put picks rest c d p q a none =
    puts_same a.done (spelled_picks picks) c d p q (sym (a.whole ∙ (ap (λ (ps : List Pick). a.done ++ spelled_picks ps) (none_if rest none) ∙ append-nil a.done))) a.puts

pub rules_put : (picks rest : List Pick) (c d : Option (List ℕ)) (p q : List ℕ) → ArePut picks rest c d p q → length rest < 1 → HaveFewDigits picks
rules_put picks rest c d p q a none = a.rules (subst HaveFewDigits (sym (none_if rest none)) tt)

-- the line of a sum: its word, its rules and its line feed
pub sum_put : (picks : List Pick) (b c d e : Option (List ℕ)) (o p q r : List ℕ) → Puts (codes "sum") b o c p → Puts (spelled_picks picks) c p d q → Puts (10 ∷ []) d q e r
    → Puts ((codes "sum" ++ spelled_picks picks) ++ 10 ∷ []) b o e r
sum_put picks b c d e o p q r t u v =
    puts_then (codes "sum" ++ spelled_picks picks) (10 ∷ []) b d e o q r (puts_then (codes "sum") (spelled_picks picks) b c d o p q t u) v

pub sum_fails_picks : (picks : List Pick) (b c d : Option (List ℕ)) (o p : List ℕ) → Puts (codes "sum") b o c p → AppendsPart c d (p ++ spelled_picks picks)
    → AppendsPart b d (o ++ ((codes "sum" ++ spelled_picks picks) ++ 10 ∷ []))
sum_fails_picks picks b c d o p t part =
    subst (λ (bs : List ℕ). AppendsPart b d (o ++ bs)) (sym (append_assoc (codes "sum") (spelled_picks picks) (10 ∷ [])))
    (part_within (codes "sum") (spelled_picks picks) (10 ∷ []) b c d o p t part)

pub sum_fails_end : (picks : List Pick) (b c d e : Option (List ℕ)) (o p q : List ℕ) → Puts (codes "sum") b o c p → Puts (spelled_picks picks) c p d q → AppendsPart d e q
    → AppendsPart b e (o ++ ((codes "sum" ++ spelled_picks picks) ++ 10 ∷ []))
sum_fails_end picks b c d e o p q t u part =
    part_then (codes "sum" ++ spelled_picks picks) (10 ∷ []) b d e o q (puts_then (codes "sum") (spelled_picks picks) b c d o p q t u) part

-- ---- a line by its piece

same_piece : (x y : Piece) → Some x ≡ Some y → x ≡ y
same_piece x y e = cc

pub piece_told : (l : Line) (picks : List Pick) (piece : Piece) → piece_of l ≡ Some piece → piece_bytes piece ≡ spelled (line_with l picks) ++ 10 ∷ []
piece_told (L.Low slot value) picks piece e = ap piece_bytes (sym (same_piece _ _ e))
piece_told (L.High slot value) picks piece e = ap piece_bytes (sym (same_piece _ _ e))
piece_told (L.Close rule) picks piece e = ap piece_bytes (sym (same_piece _ _ e))
piece_told (L.Sum count) picks piece e = let never : ⊥ = cc in absurd never
piece_told L.Unknown picks piece e = ap piece_bytes (sym (same_piece _ _ e))

pub no_piece : (l : Line) (picks : List Pick) → piece_of l ≡ None → line_with l picks ≡ T.Sum picks
no_piece (L.Low slot value) picks e = let never : ⊥ = cc in absurd never
no_piece (L.High slot value) picks e = let never : ⊥ = cc in absurd never
no_piece (L.Close rule) picks e = let never : ⊥ = cc in absurd never
no_piece (L.Sum count) picks e = refl
no_piece L.Unknown picks e = let never : ⊥ = cc in absurd never

-- ---- a record's lines

-- what is on the page or was written, and what is left, make the text
pub record IsLeft (claim : Record) (lines : List Line) (picks : List Pick) (before now : Option (List ℕ)) (waiting : List ℕ) : Type 0 where
  pub text : List ℕ
  pub written : IsWritten text before now waiting
  pub text_is : record_text claim ≡ text ++ text_of (map text_line (with_picks lines picks) ++ T.End ∷ [])
  pub short : AllShort (map text_line (with_picks lines picks) ++ T.End ∷ []) → AllShort (record_lines claim)
  pub values : HaveShortValues lines
  pub sums : HaveSums lines picks

pub header_left : (claim : Record) (before : Option (List ℕ)) (page : List ℕ) → page ≡ text_of (header_lines claim) → AllShort (header_lines claim)
    → HaveShortValues claim.lines → HaveSums claim.lines claim.picks → IsLeft claim claim.lines claim.picks before before page
header_left claim before page is short values sums = record {
  text = text_of (header_lines claim);
  written = record { done = []; written = append_nothing before; text_is = sym is };
  text_is = text_both (header_lines claim) (map text_line (with_picks claim.lines claim.picks) ++ T.End ∷ []);
  short = λ s. short_both (header_lines claim) (map text_line (with_picks claim.lines claim.picks) ++ T.End ∷ []) short s;
  values = values;
  sums = sums;
}

few_taken : (l : Line) (picks : List Pick) → HasSum l (take (taken l) picks) → taken l ≤ length picks
few_taken (L.Low slot value) picks h = omega arith
few_taken (L.High slot value) picks h = omega arith
few_taken (L.Close rule) picks h = omega arith
few_taken (L.Sum count) picks h = omega (arith, h.0, length-take count picks)
few_taken L.Unknown picks h = omega arith

module _ (claim : Record) (lines : List Line) (l : Line) (picks : List Pick) (before c : Option (List ℕ)) (p : List ℕ) (a : IsLeft claim lines picks before c p)
    (some_ : 1 ≤ length lines) (is : l ≡ get_or lines 0 l) where
  first : lines ≡ l ∷ take (length lines - 1) (drop 1 lines)
  first = first_and_later lines l some_ is

  values_now : HaveShortValues (l ∷ take (length lines - 1) (drop 1 lines))
  values_now = subst HaveShortValues first a.values

  sums_now : HaveSums (l ∷ take (length lines - 1) (drop 1 lines)) picks
  sums_now = subst (λ (ls : List Line). HaveSums ls picks) first a.sums

  pub next_value : HasShortValue l
  next_value = values_now.0

  pub next_sum : HasSum l (take (taken l) picks)
  next_sum = sums_now.0

  pub next_few : taken l ≤ length picks
  next_few = few_taken l picks sums_now.0

  text_now : record_text claim ≡ (a.text ++ (spelled (line_with l (take (taken l) picks)) ++ 10 ∷ []))
      ++ text_of (map text_line (with_picks (take (length lines - 1) (drop 1 lines)) (drop (taken l) picks)) ++ T.End ∷ [])
  text_now = a.text_is ∙ (ap (λ (ls : List Line). a.text ++ text_of (map text_line (with_picks ls picks) ++ T.End ∷ [])) first
      ∙ (ap (λ (bs : List ℕ). a.text ++ bs) (sym (append_assoc (spelled (line_with l (take (taken l) picks))) (10 ∷ [])
      (text_of (map text_line (with_picks (take (length lines - 1) (drop 1 lines)) (drop (taken l) picks)) ++ T.End ∷ []))))
      ∙ sym (append_assoc a.text (spelled (line_with l (take (taken l) picks)) ++ 10 ∷ [])
      (text_of (map text_line (with_picks (take (length lines - 1) (drop 1 lines)) (drop (taken l) picks)) ++ T.End ∷ [])))))

  pub line_left : (d : Option (List ℕ)) (q : List ℕ) → IsShort (line_with l (take (taken l) picks)) → Puts (spelled (line_with l (take (taken l) picks)) ++ 10 ∷ []) c p d q
      → IsLeft claim (take (length lines - 1) (drop 1 lines)) (drop (taken l) picks) before d q
  line_left d q short t = record {
    text = a.text ++ (spelled (line_with l (take (taken l) picks)) ++ 10 ∷ []);
    written = written_more a.text (spelled (line_with l (take (taken l) picks)) ++ 10 ∷ []) before c d p q a.written t;
    text_is = text_now;
    short = λ s. a.short (subst (λ (ls : List Line). AllShort (map text_line (with_picks ls picks) ++ T.End ∷ [])) (sym first) (short, s));
    values = values_now.1;
    sums = sums_now.1;
  }

  pub line_fails : (d : Option (List ℕ)) → AppendsPart c d (p ++ (spelled (line_with l (take (taken l) picks)) ++ 10 ∷ [])) → AppendsPart before d (record_text claim)
  line_fails d part = subst (AppendsPart before d) (sym text_now)
      (written_part (a.text ++ (spelled (line_with l (take (taken l) picks)) ++ 10 ∷ []))
      (text_of (map text_line (with_picks (take (length lines - 1) (drop 1 lines)) (drop (taken l) picks)) ++ T.End ∷ [])) before c d
      (p ++ (spelled (line_with l (take (taken l) picks)) ++ 10 ∷ [])) both part)
    where
      both : IsWritten (a.text ++ (spelled (line_with l (take (taken l) picks)) ++ 10 ∷ [])) before c (p ++ (spelled (line_with l (take (taken l) picks)) ++ 10 ∷ []))
      both = record {
        done = a.written.done;
        written = a.written.written;
        text_is = ap (λ (bs : List ℕ). bs ++ (spelled (line_with l (take (taken l) picks)) ++ 10 ∷ [])) a.written.text_is
            ∙ append_assoc a.written.done p (spelled (line_with l (take (taken l) picks)) ++ 10 ∷ []);
      }

-- ---- the end

module _ (claim : Record) (lines : List Line) (picks : List Pick) (before c : Option (List ℕ)) (p : List ℕ) (a : IsLeft claim lines picks before c p) (none : length lines < 1) where
  text_all : record_text claim ≡ a.text ++ (codes "end" ++ 10 ∷ [])
  text_all = a.text_is ∙ ap (λ (ls : List Line). a.text ++ text_of (map text_line (with_picks ls picks) ++ T.End ∷ [])) (none_if lines none)

  pub end_written : (d : Option (List ℕ)) (q : List ℕ) → Puts (codes "end" ++ 10 ∷ []) c p d q → IsWritten (record_text claim) before d q
  end_written d q t = subst (λ (bs : List ℕ). IsWritten bs before d q) (sym text_all) (written_more a.text (codes "end" ++ 10 ∷ []) before c d p q a.written t)

  pub end_fails : (d : Option (List ℕ)) → AppendsPart c d p → AppendsPart before d (record_text claim)
  end_fails d part = subst (AppendsPart before d) (sym text_all) (written_part a.text (codes "end" ++ 10 ∷ []) before c d p a.written part)

  pub all_short : AllShort (record_lines claim)
  all_short = a.short (subst (λ (ls : List Line). AllShort (map text_line (with_picks ls picks) ++ T.End ∷ [])) (sym (none_if lines none)) (tt, tt))

sums_taken : (ls : List Line) (ps : List Pick) → HaveSums ls ps → taken_all ls ≡ length ps
sums_taken [] ps h = ap (λ (xs : List Pick). length xs) (sym h)
sums_taken (l ∷ ls) ps h = omega (arith, sums_taken ls (drop (taken l) ps) h.1, length-drop (taken l) ps, few_taken l ps h.0)

pub writable : (claim : Record) → HaveSums claim.lines claim.picks → AllShort (record_lines claim) → IsWritable claim
writable claim sums short = record { short = short; all_taken = sums_taken claim.lines claim.picks sums }

-- ---- the answers

part_last : (claim : Record) (before c d : Option (List ℕ)) (p : List ℕ) → IsWritten (record_text claim) before c p → AppendsPart c d p → AppendsPart before d (record_text claim)
part_last claim before c d p w a = subst (AppendsPart before d) (append-nil (record_text claim)) (written_part (record_text claim) [] before c d p w a)

-- an exit where the sink failed
pub exit_part : {A : Type 0} (r : Result A SinkStop) (before d : Option (List ℕ)) (text : List ℕ) → AppendsPart before d text → OnErr r (AppendsPart before d text)
exit_part (Ok a) before d text part = tt
exit_part (Err e) before d text part = part

-- the last page was written, or a part of it
pub last_whole : {A : Type 0} (claim : Record) (r : Result A SinkStop) (before c d : Option (List ℕ)) (p shown : List ℕ) → IsWritten (record_text claim) before c p → shown ≡ p → OnOk r (d ≡ append_known c shown)
    → OnOk r (d ≡ append_known before (record_text claim))
last_whole claim (Ok a) before c d p shown w is e = written_whole (record_text claim) before c d p w (e ∙ ap (append_known c) is)
last_whole claim (Err e) before c d p shown w is h = tt

pub last_part : {A : Type 0} (claim : Record) (r : Result A SinkStop) (before c d : Option (List ℕ)) (p shown : List ℕ) → IsWritten (record_text claim) before c p → shown ≡ p → OnErr r (AppendsPart c d shown)
    → OnErr r (AppendsPart before d (record_text claim))
last_part claim (Ok a) before c d p shown w is h = tt
last_part claim (Err e) before c d p shown w is h = part_last claim before c d p w (subst (AppendsPart c d) is h)

pub on_ok : {A : Type 0} (r : Result A SinkStop) (P : Type 0) → P → OnOk r P
on_ok (Ok a) P p = p
on_ok (Err e) P p = tt
