-- A table read line by line, each line cut at its commas.
use Rattle.std.specs.Prelude.{ℕ, ℤ, List, [], ◌∷◌, ◌++◌, flat_map, drop}
use Rattle.run_exports.specs.Reading.{before, behind, ended_by, scaled, signed_scaled}

-- what a line says, in milliseconds, micrometres and millimetres a second
pub record Row : Type 0 where
  pub time : ℕ
  pub vehicle : List ℕ
  pub lane : ℤ
  pub position : ℤ
  pub speed : ℤ

-- a line that is cut at its commas; one that hasn't five parts says nothing
abbrev pub row_of : List (List ℕ) → List Row
row_of (time ∷ vehicle ∷ lane ∷ position ∷ speed ∷ []) = record {
  time = scaled 3 time;
  vehicle = vehicle;
  lane = signed_scaled 0 lane;
  position = signed_scaled 6 position;
  speed = signed_scaled 3 speed;
} ∷ []
row_of _ = []

-- the rows below the names of the columns
abbrev pub read_csv : List ℕ → List Row
read_csv text = flat_map (λ line. row_of (ended_by 44 (line ++ 44 ∷ []))) (drop 1 (ended_by 10 text))
