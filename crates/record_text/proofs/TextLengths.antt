-- How long a text is: 44 bytes at most for each line, and 27 for each rule of its sums.
use Rattle.std.proofs.Common.{◌≡◌, refl, true, false, ℕ, ◌+◌, ◌*◌, ◌≤◌, List, [], ◌∷◌, ◌++◌, length, map, take, drop, arith, length-append, length-drop}
use Rattle.std.proofs.lemmas.List.{length-take-le}
use Rattle.box_eval.specs.declared.cut.Side.TheVariants as Side
use Rattle.linear_sums.specs.declared.pick.Pick.{Pick}
use Rattle.record_trees.specs.declared.record.Line.{Line}
use Rattle.record_trees.specs.declared.record.Line.TheVariants as L
use Rattle.record_trees.specs.declared.record.Record.{Record}
use Rattle.record_trees.specs.Record.{Tree, IsRecordOf}
use Rattle.record_text.specs.declared.line.Form.TheVariants.{One, Two}
use Rattle.record_text.specs.TextLines.{TextLine}
use Rattle.record_text.specs.TextLines as T
use Rattle.record_text.specs.Lines.{IsShort, AllShort, spelled, text_of}
use Rattle.record_text.specs.Text.{taken, taken_all, with_picks, line_with, text_line, record_lines, record_text}
use Rattle.record_text.proofs.SumSpelling.{few_stand}
use Rattle.record_text.proofs.Lines.{decimal_short, cut_short, picks_short}
use Rattle.record_text.proofs.Texts.{takes_all}

-- how many rules a line adds
abbrev pub rules_of : TextLine → ℕ
rules_of (T.Head undecided form) = 0
rules_of (T.Slots n) = 0
rules_of (T.Rules n) = 0
rules_of (T.Room n) = 0
rules_of (T.Cut side slot v) = 0
rules_of (T.Close rule) = 0
rules_of (T.Sum picks) = length picks
rules_of T.Open = 0
rules_of T.End = 0

abbrev pub rules_in : List TextLine → ℕ
rules_in [] = 0
rules_in (line ∷ lines) = rules_of line + rules_in lines

line_length : (line : TextLine) → IsShort line → length (spelled line) ≤ 43 + 27 * rules_of line
line_length (T.Head true One) few = omega arith
line_length (T.Head true Two) few = omega arith
line_length (T.Head false One) few = omega arith
line_length (T.Head false Two) few = omega arith
line_length (T.Slots n) few = omega (arith, decimal_short n few)
line_length (T.Rules n) few = omega (arith, decimal_short n few)
line_length (T.Room n) few = omega (arith, decimal_short n few)
line_length (T.Cut Side.Low slot v) few = omega (arith, cut_short slot v few.0 few.1)
line_length (T.Cut Side.High slot v) few = omega (arith, cut_short slot v few.0 few.1)
line_length (T.Close rule) few = omega (arith, decimal_short rule few)
line_length (T.Sum picks) few = omega (arith, picks_short picks few.1 (few_stand picks few.0).1)
line_length T.Open few = omega arith
line_length T.End few = omega arith

pub text_length : (lines : List TextLine) → AllShort lines → length (text_of lines) ≤ 44 * length lines + 27 * rules_in lines
text_length [] short = omega arith
text_length (line ∷ lines) short =
    omega (arith, length-append (spelled line) (10 ∷ text_of lines), line_length line short.0, text_length lines short.1)

rules_both : (ls ms : List TextLine) → rules_in (ls ++ ms) ≡ rules_in ls + rules_in ms
rules_both [] ms = omega arith
rules_both (l ∷ ls) ms = omega (arith, rules_both ls ms)

line_rules : (l : Line) (picks : List Pick) → length picks ≡ taken l → rules_of (line_with l picks) ≡ taken l
line_rules (L.Low slot value) picks e = refl
line_rules (L.High slot value) picks e = refl
line_rules (L.Close rule) picks e = refl
line_rules (L.Sum count) picks e = e
line_rules L.Unknown picks e = refl

rules_taken : (ls : List Line) (ps : List Pick) → taken_all ls ≤ length ps → rules_in (map text_line (with_picks ls ps)) ≡ taken_all ls
rules_taken [] ps few = refl
rules_taken (l ∷ ls) ps few = omega (
  arith,
  line_rules l (take (taken l) ps) (length-take-le (taken l) ps (omega (arith, few))),
  rules_taken ls (drop (taken l) ps) (omega (arith, few, length-drop (taken l) ps)),
)

-- the text of a tree's record, by its lines and rules
pub record_length : (claim : Record) (tree : Tree) → IsRecordOf claim tree → AllShort (record_lines claim)
    → length (record_text claim) ≤ 44 * length (record_lines claim) + 27 * length claim.picks
record_length claim tree r short =
    let all : taken_all claim.lines ≡ length claim.picks = takes_all claim tree r.lines r.picks in
    omega (
      arith,
      text_length (record_lines claim) short,
      rules_both (map text_line (with_picks claim.lines claim.picks)) (T.End ∷ []),
      rules_taken claim.lines claim.picks (omega (arith, all)),
      all,
    )
