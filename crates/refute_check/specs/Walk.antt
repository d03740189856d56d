-- A record's lines over the places that are still to be read.
use Rattle.std.specs.Prelude.{◌≡◌, ℕ, ◌+◌, ◌<◌, ◌≤◌, Bool, true, List, [], ◌∷◌, ◌++◌, length, get_or, ⊤, ℤ}
use Rattle.box_eval.specs.declared.flat.Flat.{Flat}
use Rattle.box_eval.specs.declared.bounds.Pair.{Pair}
use Rattle.box_eval.specs.declared.cut.Cut.{Cut}
use Rattle.box_eval.specs.declared.cut.Side.TheVariants as Side
use Rattle.record_trees.specs.declared.record.Line.{Line}
use Rattle.record_trees.specs.declared.record.Line.TheVariants as L
use Rattle.box_eval.specs.Box.{cut_at, first_part, second_part, IsInside, IsCutOf}
use Rattle.linear_sums.specs.declared.pick.Pick.{Pick}
use Rattle.linear_sums.specs.Sums.{IsClear}
use Rattle.record_trees.specs.Record.{FullLine, may_cut, may_close, may_add}
use Rattle.bound_trail.specs.History.{History, mark_of, present, with_box, back_to}
use Rattle.refute_check.specs.declared.stack.Pending.{Pending}
use Rattle.refute_check.specs.Stack.{rest}

-- ---- places

-- a box that a tree is to stand on, and the number of cuts above it
pub record Place : Type 0 where
  pub ends : List Pair
  pub above : ℕ

abbrev pub place : List Pair → ℕ → Place
place ends above = record { ends = ends; above = above }

-- whether a line, with the rules of its sum, is accepted at a place
abbrev pub mark_line : Flat → ℕ → Place → List Pick → Line → Bool
mark_line flat room p picks (L.Low slot value) = may_cut room p.ends p.above (cut_at Side.Low slot value)
mark_line flat room p picks (L.High slot value) = may_cut room p.ends p.above (cut_at Side.High slot value)
mark_line flat room p picks (L.Close rule) = may_close flat.rules p.ends rule
mark_line flat room p picks (L.Sum count) = may_add flat p.ends picks
mark_line flat room p picks L.Unknown = true

abbrev pub mark : Flat → ℕ → Place → FullLine → Bool
mark flat room p l = mark_line flat room p l.picks l.line

-- the places of the two parts of a cut
abbrev pub parts : Cut → Place → List Place
parts cut p = place (first_part cut p.ends) (p.above + 1) ∷ place (second_part cut p.ends) (p.above + 1) ∷ []

-- the places that a line puts in the stead of its own
abbrev pub next : Place → Line → List Place
next p (L.Low slot value) = parts (cut_at Side.Low slot value) p
next p (L.High slot value) = parts (cut_at Side.High slot value) p
next p (L.Close rule) = []
next p (L.Sum count) = []
next p L.Unknown = []

-- for each line in turn, whether it is accepted at the first place that is left
abbrev pub marks_at : Flat → ℕ → List Place → List FullLine → List Bool
marks_at flat room ps [] = []
marks_at flat room [] (l ∷ ls) = []
marks_at flat room (p ∷ ps) (l ∷ ls) = mark flat room p l ∷ marks_at flat room (next p l.line ++ ps) ls

-- the places that are left after some lines
abbrev pub places_after : List Place → List FullLine → List Place
places_after ps [] = ps
places_after [] (l ∷ ls) = []
places_after (p ∷ ps) (l ∷ ls) = places_after (next p l.line ++ ps) ls

-- ---- the trail and the stack

-- the second parts of the cuts that wait, where these are the boxes of the trail
abbrev pub untried : List (List Pair) → List Pending → List Place
untried boxes [] = []
untried boxes (d ∷ ds) = place (second_part d.cut (get_or boxes d.mark [])) (d.mark + 1) ∷ untried boxes ds

-- the present box, and then the second parts
abbrev pub places_now : History → List Pending → List Place
places_now trail ds = place (present trail) (mark_of trail) ∷ untried trail.boxes ds

-- each cut that waits stands above the one that came later, and cuts its box
abbrev pub AllWait : List (List Pair) → ℕ → List Pending → Type 0
AllWait boxes mark [] = ⊤
AllWait boxes mark (d ∷ ds) = (d.mark < mark) × IsCutOf (get_or boxes d.mark []) d.cut × AllWait boxes d.mark ds

-- a trail whose boxes are parts of the root, with the cuts that wait
pub record IsStanding (root : List Pair) (trail : History) (ds : List Pending) : Type 0 where
  pub some : 0 < length trail.boxes
  pub few : mark_of trail ≤ trail.room
  pub inside : (k : ℕ) → k < length trail.boxes → IsInside (get_or trail.boxes k []) root
  pub wait : AllWait trail.boxes (mark_of trail) ds

-- the room for the factors of a sum: a 0 for each slot
pub record AreSums (flat : Flat) (sums : List ℤ) : Type 0 where
  pub slots : length sums ≡ length flat.bounds.pairs
  pub clear : IsClear sums

-- ---- a line's step

abbrev pub trail_cut : History → Cut → History
trail_cut trail cut = with_box trail (first_part cut (present trail))

abbrev pub trail_leaf : History → List Pending → History
trail_leaf trail [] = trail
trail_leaf trail (d ∷ ds) = with_box (back_to trail d.mark) (second_part d.cut (present (back_to trail d.mark)))

abbrev pub trail_after : History → List Pending → Line → History
trail_after trail ds (L.Low slot value) = trail_cut trail (cut_at Side.Low slot value)
trail_after trail ds (L.High slot value) = trail_cut trail (cut_at Side.High slot value)
trail_after trail ds (L.Close rule) = trail_leaf trail ds
trail_after trail ds (L.Sum count) = trail_leaf trail ds
trail_after trail ds L.Unknown = trail_leaf trail ds

abbrev pub waiting : History → Cut → Pending
waiting trail cut = record { cut = cut; mark = mark_of trail }

abbrev pub stack_after : History → List Pending → Line → List Pending
stack_after trail ds (L.Low slot value) = waiting trail (cut_at Side.Low slot value) ∷ ds
stack_after trail ds (L.High slot value) = waiting trail (cut_at Side.High slot value) ∷ ds
stack_after trail ds (L.Close rule) = rest ds
stack_after trail ds (L.Sum count) = rest ds
stack_after trail ds L.Unknown = rest ds
