-- What the fields of a trail stand for.
use Rattle.std.specs.Prelude.{ℕ, zero, suc, ◌<◌, ◌≤◌, ◌^◌, List, [], ◌∷◌, ◌++◌, length, get_or, slice_set, pos}
use Rattle.box_eval.specs.declared.bounds.Pair.{Pair}
use Rattle.box_eval.specs.Box.{pair}
use Rattle.bound_trail.specs.declared.trail.Change.{Change}
use Rattle.bound_trail.specs.History.{AllBoxes}

abbrev pub no_change : Change
no_change = record { slot = 0; was = pair (pos 0) (pos 0) }

-- the ends before a change
abbrev pub undone : Change → List Pair → List Pair
undone change ends = slice_set ends change.slot change.was

-- the boxes after 0, 1, .. and all of the first `mark` changes; the last is `ends`
abbrev pub boxes_of : ℕ → List Change → List Pair → List (List Pair)
boxes_of zero changes ends = ends ∷ []
boxes_of (suc mark) changes ends = boxes_of mark changes (undone (get_or changes mark no_change) ends) ++ ends ∷ []

-- the places for changes, the first `mark` of which are in use, and the present ends
pub record IsTrail (mark : ℕ) (changes : List Change) (ends : List Pair) : Type 0 where
  pub within : mark ≤ length changes
  pub few_changes : length changes < 2 ^ 32
  pub few_slots : length ends < 2 ^ 32
  pub slots : (k : ℕ) → k < mark → (get_or changes k no_change).slot < length ends
  pub boxes : AllBoxes (boxes_of mark changes ends)
