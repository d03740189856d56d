-- What the functions hold of a line that was read, with the rules of the sum that was read last, makes a whole line.
use Rattle.std.specs.Prelude.{Bool, List, Option, Some, None, if◌then◌else◌}
use Rattle.linear_sums.specs.declared.pick.Pick.{Pick}
use Rattle.record_text.specs.declared.line.ReadLine.{ReadLine}
use Rattle.record_text.specs.declared.line.ReadLine.TheVariants as R
use Rattle.record_text.specs.declared.found.Found.{Found}
use Rattle.record_text.specs.declared.found.Found.TheVariants as F
use Rattle.record_text.specs.TextLines.{TextLine}
use Rattle.record_text.specs.TextLines as T
use Rattle.record_text.specs.FoundLines.{FoundLine}
use Rattle.record_text.specs.FoundLines as L

abbrev pub whole_line : List Pick → ReadLine → TextLine
whole_line picks (R.Head undecided form) = T.Head undecided form
whole_line picks (R.Slots number) = T.Slots number
whole_line picks (R.Rules number) = T.Rules number
whole_line picks (R.Room number) = T.Room number
whole_line picks (R.Cut side slot value) = T.Cut side slot value
whole_line picks (R.Close rule) = T.Close rule
whole_line picks R.Sum = T.Sum picks
whole_line picks R.Open = T.Open
whole_line picks R.End = T.End

-- the same of a line that may be there
abbrev pub whole_if : List Pick → Option ReadLine → Option TextLine
whole_if picks None = None
whole_if picks (Some line) = Some (whole_line picks line)

-- the same of what was found
abbrev pub whole_found : List Pick → Found → FoundLine
whole_found picks (F.Line line) = L.Line (whole_line picks line)
whole_found picks F.Other = L.Other
whole_found picks F.Nothing = L.Nothing

-- rules that are there if they could be read
abbrev pub if_read : Bool → List Pick → Option (List Pick)
if_read read picks = if read then Some picks else None
