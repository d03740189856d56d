-- How far a text was read, and what is known of it when reading stops.
use Rattle.std.specs.Prelude.{◌≡◌, ℕ, ◌+◌, ◌<◌, ◌≤◌, List, [], length, Option, Some, ⊤}
use Rattle.outside_io.specs.Files.{NothingLeft}
use Rattle.record_text.specs.TextLines.{TextLine}
use Rattle.record_text.specs.declared.stop.VerifyStop.{VerifyStop}
use Rattle.record_text.specs.declared.stop.VerifyStop.TheVariants as V
use Rattle.record_text.specs.Lines.{text_of, AllShort}
use Rattle.record_text.specs.Source.{limit, Gives}
use Rattle.record_text.specs.Reader.{Reading}
use Rattle.record_text.specs.Text.{IsFirstBadLine}

-- a reader that has read nothing
abbrev pub fresh : Reading
fresh = record { unread = record { bytes = []; given = 0 }; picks = []; lines = 0 }

-- these lines were read
pub record HasRead (lines : List TextLine) (start now : Reading) (left left_now : Option (List ℕ)) : Type 0 where
  pub short : AllShort lines
  pub gives : Gives (text_of lines) start.unread now.unread left left_now
  pub counted : now.lines ≡ start.lines + length lines

-- some text that isn't too long has this first bad line
pub record SomeBadText (line : ℕ) : Type 0 where
  pub text : List ℕ
  pub bad : IsFirstBadLine text line
  pub within : length text ≤ limit

-- what is known of the text, where it is told, when reading stops
abbrev pub Stopped : VerifyStop → Option (List ℕ) → Option (List ℕ) → Type 0
Stopped V.Shelf left left_after = ⊤
Stopped V.TooLong left left_after = (text : List ℕ) → left ≡ Some text → limit < length text
Stopped (V.BadLine line) left left_after = ((text : List ℕ) → left ≡ Some text → IsFirstBadLine text line × (length text ≤ limit)) × NothingLeft left_after × SomeBadText line
Stopped V.Memory left left_after = ⊤
