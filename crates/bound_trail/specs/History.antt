-- A trail as the list of its boxes, from the one that it was made with to the present one.
use Rattle.std.specs.Prelude.{ℕ, ◌+◌, ◌-◌, List, [], ◌∷◌, ◌++◌, length, get_or, take, ⊤}
use Rattle.box_eval.specs.declared.bounds.Pair.{Pair}
use Rattle.box_eval.specs.Box.{IsBox}

-- the boxes, and the number of sets that the trail has places for
pub record History : Type 0 where
  pub boxes : List (List Pair)
  pub room : ℕ

-- the number of sets that stand
abbrev pub mark_of : History → ℕ
mark_of history = length history.boxes - 1

-- the present box is the last
abbrev pub present : History → List Pair
present history = get_or history.boxes (mark_of history) []

-- one box more, which is the present one from then on
abbrev pub with_box : History → List Pair → History
with_box history ends = record { boxes = history.boxes ++ ends ∷ []; room = history.room }

-- back to the box after so many sets
abbrev pub back_to : History → ℕ → History
back_to history mark = record { boxes = take (mark + 1) history.boxes; room = history.room }

-- each of them is a box
abbrev pub AllBoxes : List (List Pair) → Type 0
AllBoxes [] = ⊤
AllBoxes (ends ∷ boxes) = IsBox ends × AllBoxes boxes
