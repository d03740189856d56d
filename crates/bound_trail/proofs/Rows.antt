-- Worked rows: a trail over two slots, two sets, and the way back.
use Rattle.std.proofs.Common.{◌≡◌, refl, List, [], ◌∷◌, pos, negsuc}
use Rattle.box_eval.specs.declared.bounds.Pair.{Pair}
use Rattle.box_eval.specs.Box.{pair, up_to, from}
use Rattle.bound_trail.specs.History.{History, mark_of, present, with_box, back_to}
use Rattle.bound_trail.specs.Trail.{boxes_of}

abbrev first : List Pair
first = pair (pos 0) (pos 9) ∷ pair (negsuc 4) (pos 5) ∷ []

abbrev second : List Pair
second = pair (pos 3) (pos 9) ∷ pair (negsuc 4) (pos 5) ∷ []

abbrev third : List Pair
third = pair (pos 3) (pos 9) ∷ pair (negsuc 4) (negsuc 4) ∷ []

abbrev begun : History
begun = record { boxes = first ∷ []; room = 2 }

abbrev narrowed : History
narrowed = with_box begun (from (present begun) 0 (pos 3))

abbrev both : History
both = with_box narrowed (up_to (present narrowed) 1 (negsuc 4))

row_mark : mark_of both ≡ 2
row_mark = refl

row_boxes : both.boxes ≡ first ∷ second ∷ third ∷ []
row_boxes = refl

row_undone : back_to both 1 ≡ narrowed
row_undone = refl

row_all_undone : back_to both 0 ≡ begun
row_all_undone = refl

-- the fields after both sets: the pairs that were changed, and the ends that are left
row_fields : boxes_of 2 (record { slot = 0; was = pair (pos 0) (pos 9) } ∷ record { slot = 1; was = pair (negsuc 4) (pos 5) } ∷ []) third ≡ both.boxes
row_fields = refl
