-- The text of a record, and where a text stops being one.
use Rattle.std.specs.Prelude.{◌≡◌, ℕ, ◌+◌, Bool, true, false, if◌then◌else◌, List, [], ◌∷◌, ◌++◌, length, map, take, drop}
use Rattle.std.specs.List.{list_any}
use Rattle.box_eval.specs.declared.cut.Side.TheVariants as Side
use Rattle.linear_sums.specs.declared.pick.Pick.{Pick}
use Rattle.record_trees.specs.declared.record.Line.{Line}
use Rattle.record_trees.specs.declared.record.Line.TheVariants as L
use Rattle.record_trees.specs.declared.record.Record.{Record}
use Rattle.record_trees.specs.Record.{Tree, FullLine, full, lines_of, picks_of, has_open, has_sum, IsRecordOf}
use Rattle.record_text.specs.declared.line.Form.{Form}
use Rattle.record_text.specs.declared.line.Form.TheVariants.{One, Two}
use Rattle.record_text.specs.TextLines.{TextLine}
use Rattle.record_text.specs.TextLines.{Head, Slots, Rules, Room, Cut, Close, Sum, Open, End}
use Rattle.record_text.specs.Lines.{text_of, AllShort}

-- how many rules a line takes
abbrev pub taken : Line → ℕ
taken (L.Low slot value) = 0
taken (L.High slot value) = 0
taken (L.Close rule) = 0
taken (L.Sum count) = count
taken L.Unknown = 0

-- how many lines take together
abbrev pub taken_all : List Line → ℕ
taken_all [] = 0
taken_all (l ∷ ls) = taken l + taken_all ls

-- lines with the rules of their sums, which they take of these in turn
abbrev pub with_picks : List Line → List Pick → List FullLine
with_picks [] picks = []
with_picks (l ∷ ls) picks = full l (take (taken l) picks) ∷ with_picks ls (drop (taken l) picks)

-- the line of a text for a cut or for a leaf that has these rules
abbrev pub line_with : Line → List Pick → TextLine
line_with (L.Low slot value) picks = Cut Side.Low slot value
line_with (L.High slot value) picks = Cut Side.High slot value
line_with (L.Close rule) picks = Close rule
line_with (L.Sum count) picks = Sum picks
line_with L.Unknown picks = Open

abbrev pub text_line : FullLine → TextLine
text_line f = line_with f.line f.picks

abbrev pub is_sum_line : Line → Bool
is_sum_line (L.Low slot value) = false
is_sum_line (L.High slot value) = false
is_sum_line (L.Close rule) = false
is_sum_line (L.Sum count) = true
is_sum_line L.Unknown = false

-- whether some line is a sum
abbrev pub sum_among : List Line → Bool
sum_among lines = list_any is_sum_line lines

-- form 2 is that of records with a sum
abbrev pub form_for : Bool → Form
form_for some_sum = if some_sum then Two else One

-- a record's lines in a form, from its heading to its end
abbrev pub lines_in : Form → Record → List TextLine
lines_in form claim =
    Head claim.undecided form ∷ Slots claim.slots ∷ Rules claim.rules ∷ Room claim.room ∷ (map text_line (with_picks claim.lines claim.picks) ++ End ∷ [])

-- a record's form: 2 if it has a sum, and else 1
abbrev pub form_of : Record → Form
form_of claim = form_for (sum_among claim.lines)

abbrev pub record_lines : Record → List TextLine
record_lines claim = lines_in (form_of claim) claim

-- a record's text
abbrev pub record_text : Record → List ℕ
record_text claim = text_of (record_lines claim)

-- each number has at most 18 digits, and the sums take all rules of the record
pub record IsWritable (claim : Record) : Type 0 where
  pub short : AllShort (record_lines claim)
  pub all_taken : taken_all claim.lines ≡ length claim.picks

-- no other record that may be written has the text of this one
abbrev pub HasOwnText : Record → Type 0
HasOwnText claim = (other : Record) → IsWritable other → record_text other ≡ record_text claim → other ≡ claim

-- the record of a tree, and its text; each number has at most 18 digits
pub record IsTextOf (text : List ℕ) (claim : Record) (tree : Tree) : Type 0 where
  pub record_of : IsRecordOf claim tree
  pub short : AllShort (record_lines claim)
  pub spelled : text ≡ record_text claim

-- ---- where a text stops being one

-- A record in a form as it may stand before its end. Only there an undecided record needs an open leaf, and one in form 2 a sum.
pub record IsBeforeEnd (form : Form) (claim : Record) (tree : Tree) : Type 0 where
  pub lines : claim.lines ≡ lines_of tree
  pub picks : claim.picks ≡ picks_of tree
  pub open_in_undecided : has_open tree ≡ true → claim.undecided ≡ true
  pub sum_in_two : has_sum tree ≡ true → form ≡ Two
  pub short : AllShort (lines_in form claim)

-- a whole record, in its form
pub record IsWhole (form : Form) (claim : Record) (tree : Tree) : Type 0 where
  pub record_of : IsRecordOf claim tree
  pub form_is : form ≡ form_of claim

-- these lines may be the first of a text
pub record MayBegin (lines : List TextLine) : Type 0 where
  pub claim : Record
  pub tree : Tree
  pub form : Form
  pub before_end : IsBeforeEnd form claim tree
  pub later : List TextLine
  pub whole : lines_in form claim ≡ lines ++ later
  pub at_end : later ≡ [] → IsWhole form claim tree

-- the first k lines of this text may be the first of a record's text
pub record IsGoodFor (text : List ℕ) (k : ℕ) : Type 0 where
  pub lines : List TextLine
  pub count : length lines ≡ k
  pub rest : List ℕ
  pub spelled : text ≡ text_of lines ++ rest
  pub may_begin : MayBegin lines

-- the text is no record's, and this line, counted from 1, is the first that no record's text has there
pub record IsFirstBadLine (text : List ℕ) (line : ℕ) : Type 0 where
  pub no_record : (claim : Record) → (tree : Tree) → IsTextOf text claim tree → ⊥
  pub before : ℕ
  pub number : line ≡ before + 1
  pub good_before : IsGoodFor text before
  pub bad_here : IsGoodFor text line → ⊥
