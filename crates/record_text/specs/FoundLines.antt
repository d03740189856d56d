-- What stands next in a text.
use Rattle.record_text.specs.TextLines.{TextLine}

pub data FoundLine : Type 0 where
  -- a line that a record may have
  Line : TextLine → FoundLine
  -- another line
  Other : FoundLine
  -- no whole line: the text ends first
  Nothing : FoundLine
