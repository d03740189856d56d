-- A record whose lines are short may be written.
use Rattle.std.proofs.Common.{◌≡◌, refl, ◌+◌, List, [], ◌∷◌, ◌++◌, length, map, take, drop, arith, length-drop}
use Rattle.std.proofs.lemmas.List.{length-take-le}
use Rattle.linear_sums.specs.declared.pick.Pick.{Pick}
use Rattle.record_trees.specs.declared.record.Line.{Line}
use Rattle.record_trees.specs.declared.record.Line.TheVariants as L
use Rattle.record_trees.specs.declared.record.Record.{Record}
use Rattle.record_trees.specs.Record.{Tree, IsRecordOf}
use Rattle.record_text.specs.TextLines.{TextLine}
use Rattle.record_text.specs.Lines.{IsShort, AllShort}
use Rattle.record_text.specs.Text.{taken, taken_all, with_picks, line_with, text_line, record_lines}
use Rattle.record_text.specs.Written.{HasShortValue, HaveShortValues, HasSum, HaveSums}
use Rattle.record_text.proofs.Texts.{takes_all}

short_value : (l : Line) (picks : List Pick) → IsShort (line_with l picks) → HasShortValue l
short_value (L.Low slot value) picks short = short.1
short_value (L.High slot value) picks short = short.1
short_value (L.Close rule) picks short = tt
short_value (L.Sum count) picks short = tt
short_value L.Unknown picks short = tt

short_values : (ls : List Line) (picks : List Pick) (more : List TextLine) → AllShort (map text_line (with_picks ls picks) ++ more) → HaveShortValues ls
short_values [] picks more short = tt
short_values (l ∷ ls) picks more short = (short_value l (take (taken l) picks) short.0, short_values ls (drop (taken l) picks) more short.1)

pub values_of : (claim : Record) → AllShort (record_lines claim) → HaveShortValues claim.lines
values_of claim short = short_values claim.lines claim.picks _ short.1.1.1.1

short_sum : (l : Line) (picks : List Pick) → length picks ≡ taken l → IsShort (line_with l picks) → HasSum l picks
short_sum (L.Low slot value) picks fits short = tt
short_sum (L.High slot value) picks fits short = tt
short_sum (L.Close rule) picks fits short = tt
short_sum (L.Sum count) picks fits short = (fits, short.0)
short_sum L.Unknown picks fits short = tt

none_left : (picks : List Pick) → 0 ≡ length picks → picks ≡ []
none_left [] e = refl
none_left (p ∷ ps) e = absurd (let never : ⊥ = omega (arith, e) in never)

short_sums : (ls : List Line) (picks : List Pick) (more : List TextLine) → taken_all ls ≡ length picks → AllShort (map text_line (with_picks ls picks) ++ more) → HaveSums ls picks
short_sums [] picks more all short = none_left picks all
short_sums (l ∷ ls) picks more all short = (
  short_sum l (take (taken l) picks) (length-take-le (taken l) picks (omega (arith, all))) short.0,
  short_sums ls (drop (taken l) picks) more (omega (arith, all, length-drop (taken l) picks)) short.1,
)

-- the sums of a tree's record
pub sums_of : (claim : Record) (tree : Tree) → IsRecordOf claim tree → AllShort (record_lines claim) → HaveSums claim.lines claim.picks
sums_of claim tree r short = short_sums claim.lines claim.picks _ (takes_all claim tree r.lines r.picks) short.1.1.1.1
