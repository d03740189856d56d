-- The road of an OpenDRIVE file, read line by line.
use Rattle.std.specs.Prelude.{ℕ, Bool, true, false, List, [], ◌∷◌, codes}
use Rattle.run_exports.specs.Reading.{ended_by, scaled, begins, unindented, attribute}

-- how long a road is in metres, and the width of each lane in millimetres, from the left
pub record Lanes : Type 0 where
  pub length : ℕ
  pub widths : List ℕ

abbrev pub with_width : Bool → List ℕ → Lanes → Lanes
with_width true line later = record { length = later.length; widths = scaled 3 (attribute (codes "a") line) ∷ later.widths }
with_width false line later = later

abbrev pub with_length : Bool → List ℕ → Lanes → Lanes
with_length true line later = record { length = scaled 0 (attribute (codes "length") line); widths = later.widths }
with_length false line later = with_width (begins (codes "<width ") line) line later

abbrev pub lanes_in : List (List ℕ) → Lanes
lanes_in [] = record { length = 0; widths = [] }
lanes_in (line ∷ later) = with_length (begins (codes "<road ") (unindented line)) (unindented line) (lanes_in later)

abbrev pub read_xodr : List ℕ → Lanes
read_xodr text = lanes_in (ended_by 10 text)
