-- The lines that vehicles follow, read from an OpenSCENARIO XML file line by line.
-- A corner stands on a line of its own, below the line on which its trajectory begins.
use Rattle.std.specs.Prelude.{ℕ, ℤ, Bool, true, false, List, [], ◌∷◌, codes}
use Rattle.run_exports.specs.Reading.{ended_by, scaled, signed_scaled, begins, unindented, attribute}

-- a corner, in milliseconds and micrometres
pub record Corner : Type 0 where
  pub time : ℕ
  pub x : ℤ
  pub y : ℤ

pub record Trajectory : Type 0 where
  pub vehicle : List ℕ
  pub corners : List Corner

-- what stands from some line on: corners of the trajectory that begins above it, and later trajectories
pub record Onward : Type 0 where
  pub corners : List Corner
  pub later : List Trajectory

abbrev pub corner_of : List ℕ → Corner
corner_of line = record {
  time = scaled 3 (attribute (codes "time") line);
  x = signed_scaled 6 (attribute (codes "x") line);
  y = signed_scaled 6 (attribute (codes "y") line);
}

abbrev pub with_corner : Bool → List ℕ → Onward → Onward
with_corner true line onward = record { corners = corner_of line ∷ onward.corners; later = onward.later }
with_corner false line onward = onward

abbrev pub with_trajectory : Bool → List ℕ → Onward → Onward
with_trajectory true line onward = record {
  corners = [];
  later = record { vehicle = attribute (codes "name") line; corners = onward.corners } ∷ onward.later;
}
with_trajectory false line onward = with_corner (begins (codes "<Vertex ") line) line onward

abbrev pub with_line : List ℕ → Onward → Onward
with_line line onward = with_trajectory (begins (codes "<Trajectory ") line) line onward

abbrev pub from_lines : List (List ℕ) → Onward
from_lines [] = record { corners = []; later = [] }
from_lines (line ∷ lines) = with_line (unindented line) (from_lines lines)

-- the trajectories of a file
abbrev pub read_xosc : List ℕ → List Trajectory
read_xosc text = (from_lines (ended_by 10 text)).later
