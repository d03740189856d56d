-- The lines of a record's text, each with all that it says.
use Rattle.std.specs.Prelude.{ℕ, Bool, List, ℤ}
use Rattle.box_eval.specs.declared.cut.Side.{Side}
use Rattle.linear_sums.specs.declared.pick.Pick.{Pick}
use Rattle.record_text.specs.declared.line.Form.{Form}

pub data TextLine : Type 0 where
  -- the heading of a record: whether it is undecided, and its form
  Head : Bool → Form → TextLine
  -- the number of slots of the flat form
  Slots : ℕ → TextLine
  -- the number of its rules
  Rules : ℕ → TextLine
  -- a number that the cuts above a line never exceed
  Room : ℕ → TextLine
  -- a cut by its side, slot and value, which the lines of its first part and then those of its second follow
  Cut : Side → ℕ → ℤ → TextLine
  -- the present box has no point at which the rule is true
  Close : ℕ → TextLine
  -- the present box has no point at which all of these rules are true
  Sum : List Pick → TextLine
  -- nothing is said of the present box
  Open : TextLine
  -- the end of the record
  End : TextLine
