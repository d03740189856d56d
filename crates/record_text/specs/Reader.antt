-- What the reader of a record looks for, and what it answers.
use Rattle.std.specs.Prelude.{◌≡◌, ℕ, ◌+◌, ◌≤◌, Bool, true, false, if◌then◌else◌, List, [], ◌∷◌, ◌++◌, length, Option, Some, None, ⊤}
use Rattle.linear_sums.specs.declared.pick.Pick.{Pick}
use Rattle.record_text.specs.TextLines.{TextLine}
use Rattle.record_text.specs.TextLines as T
use Rattle.record_text.specs.FoundLines.{FoundLine}
use Rattle.record_text.specs.FoundLines as F
use Rattle.record_text.specs.declared.found.Wanted.{Wanted}
use Rattle.record_text.specs.declared.found.Wanted.TheVariants as W
use Rattle.record_text.specs.declared.stop.VerifyStop.{VerifyStop}
use Rattle.record_text.specs.declared.stop.VerifyStop.TheVariants as V
use Rattle.outside_io.specs.Files.{NothingLeft}
use Rattle.record_text.specs.Lines.{is_two, IsShort, spelled, NoFeed}
use Rattle.record_text.specs.Scan.{line_at}
use Rattle.record_text.specs.Source.{limit, Unread, rest_of, Gives, IsAtEnd, IsTooLong, IsWithin}

-- the lines that are wanted
abbrev pub wants : Wanted → TextLine → Bool
wants W.Head (T.Head undecided form) = true
wants W.Slots (T.Slots n) = true
wants W.Rules (T.Rules n) = true
wants W.Room (T.Room n) = true
wants (W.Node undecided form) (T.Cut side slot value) = true
wants (W.Node undecided form) (T.Close rule) = true
wants (W.Node undecided form) (T.Sum picks) = is_two form
wants (W.Node undecided form) T.Open = undecided
wants W.End T.End = true
wants wanted line = false

abbrev pub found_line : Option TextLine → FoundLine
found_line (Some line) = F.Line line
found_line None = F.Other

abbrev pub found_at : List ℕ → FoundLine
found_at text = found_line (line_at text)

abbrev pub if_wanted : Wanted → TextLine → Option TextLine
if_wanted wanted line = if wants wanted line then Some line else None

abbrev pub wanted_line : Wanted → FoundLine → Option TextLine
wanted_line wanted (F.Line line) = if_wanted wanted line
wanted_line wanted F.Other = None
wanted_line wanted F.Nothing = None

-- what a text has next: a line that a record may have, another line, or no line feed any more
abbrev pub IsFound : List ℕ → FoundLine → Type 0
IsFound text (F.Line line) = IsShort line × (text ≡ spelled line)
IsFound text F.Other = NoFeed text × ((line : TextLine) → IsShort line → text ≡ spelled line → ⊥)
IsFound text F.Nothing = NoFeed text

-- what was read: the line and its line feed, or what was left
abbrev pub read_of : List ℕ → FoundLine → List ℕ
read_of text (F.Line line) = text ++ 10 ∷ []
read_of text F.Other = text ++ 10 ∷ []
read_of text F.Nothing = text

abbrev pub AtEndIfNothing : FoundLine → Unread → Option (List ℕ) → Type 0
AtEndIfNothing (F.Line line) unread left = ⊤
AtEndIfNothing F.Other unread left = ⊤
AtEndIfNothing F.Nothing unread left = IsAtEnd unread left

abbrev pub is_nothing : FoundLine → Bool
is_nothing (F.Line line) = false
is_nothing F.Other = false
is_nothing F.Nothing = true

-- the next line was read and found to be this
pub record Finds (found : FoundLine) (before after : Unread) (left left_after : Option (List ℕ)) : Type 0 where
  pub text : List ℕ
  pub is : IsFound text found
  pub gives : Gives (read_of text found) before after left left_after
  pub at_end : AtEndIfNothing found after left_after

-- no wanted line stands first
abbrev pub NoneWanted : Wanted → List ℕ → Type 0
NoneWanted wanted rest = (line : TextLine) → (later : List ℕ) → IsShort line → wants wanted line ≡ true → rest ≡ spelled line ++ 10 ∷ later → ⊥

-- ---- the reader

-- what a reader has not read yet, the rules of the sum that it read last, and the number of lines that it read
pub record Reading : Type 0 where
  pub unread : Unread
  pub picks : List Pick
  pub lines : ℕ

-- a wanted line was read
pub record GivesLine (line : TextLine) (wanted : Wanted) (before after : Reading) (left left_after : Option (List ℕ)) : Type 0 where
  pub short : IsShort line
  pub is_wanted : wants wanted line ≡ true
  pub gives : Gives (spelled line ++ 10 ∷ []) before.unread after.unread left left_after
  pub counted : after.lines ≡ before.lines + 1

-- Some bytes may come after those that were read for which the reason holds. It is known of a shelf that tells nothing too.
pub record MayCome (reason : List ℕ → Type 0) (reading : Reading) : Type 0 where
  pub bytes : List ℕ
  pub because : reason bytes
  pub few : reading.unread.given + length bytes ≤ limit

-- the line after those that were read is bad, for this reason, and the text has no more bytes than it may
pub record Refuses (line : ℕ) (reason : List ℕ → Type 0) (reading : Reading) (left : Option (List ℕ)) : Type 0 where
  pub number : line ≡ reading.lines + 1
  pub because : (rest : List ℕ) → rest_of reading.unread left ≡ Some rest → reason rest
  pub within : IsWithin reading.unread left
  pub may_come : MayCome reason reading

-- why no line was read: the shelf failed, there are too many bytes, or the line is bad and the text was read to its end
abbrev pub Stops : VerifyStop → (List ℕ → Type 0) → Reading → Option (List ℕ) → Option (List ℕ) → Type 0
Stops V.Shelf reason reading left left_after = ⊤
Stops V.TooLong reason reading left left_after = IsTooLong reading.unread left
Stops (V.BadLine line) reason reading left left_after = Refuses line reason reading left × NothingLeft left_after
Stops V.Memory reason reading left left_after = ⊥
