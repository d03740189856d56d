-- Places that are still to be given a tree, and lists of trees, one for each of them.
use Rattle.std.specs.Prelude.{◌≡◌, ◌⊎◌, ℕ, ◌+◌, ◌≤◌, max, true, false, if◌then◌else◌, List, [], ◌∷◌, ◌++◌, length, ⊤}
use Rattle.box_eval.specs.declared.bounds.Pair.{Pair}
use Rattle.box_eval.specs.declared.cut.Cut.{Cut}
use Rattle.box_eval.specs.declared.flat.Flat.{Flat}
use Rattle.linear_sums.specs.declared.pick.Pick.{Pick}
use Rattle.record_trees.specs.declared.record.Line.{Line}
use Rattle.record_trees.specs.Record.{Tree, leaf, unknown, lines_of, picks_of, has_open, cuts_of, depth_of, Accepted}
use Rattle.record_trees.specs.Trees.{lines_all, picks_all, cuts_all, any_open}
use Rattle.record_trees.specs.Guided.{decisions, Guided, EndsAt, way_down}

-- a box that a tree is to stand on, and the boxes above it, the flat form's first
pub record Place : Type 0 where
  pub above : List (List Pair)
  pub box : List Pair

abbrev pub place : List (List Pair) → List Pair → Place
place above box = record { above = above; box = box }

-- ---- trees over their places

-- the greatest number of cuts above a leaf
abbrev pub depth_all : List Place → List Tree → ℕ
depth_all (p ∷ ps) (t ∷ ts) = max (length p.above + depth_of t) (depth_all ps ts)
depth_all ps ts = 0

-- the boxes on the way down to the first leaf that is open
abbrev pub way_all : List Place → List Tree → List (List Pair)
way_all (p ∷ ps) (t ∷ ts) = if has_open t then p.above ++ way_down p.box t else way_all ps ts
way_all ps ts = []

-- there is a tree for each place, and each is accepted there
abbrev pub AcceptedAll : Flat → ℕ → List Place → List Tree → Type 0
AcceptedAll flat room [] [] = ⊤
AcceptedAll flat room [] (t ∷ ts) = ⊥
AcceptedAll flat room (p ∷ ps) [] = ⊥
AcceptedAll flat room (p ∷ ps) (t ∷ ts) = Accepted flat room p.box (length p.above) t × AcceptedAll flat room ps ts

-- every decision of the trees is chosen, and the numbers run on from tree to tree
abbrev pub GuidedAll : (ℕ → List Pair → Cut) → Flat → ℕ → List Place → List Tree → Type 0
GuidedAll choose flat k (p ∷ ps) (t ∷ ts) = Guided choose flat p.box k t × GuidedAll choose flat (k + decisions flat.rules p.box t) ps ts
GuidedAll choose flat k ps ts = ⊤

-- each tree is a leaf that is unknown
abbrev pub AllUnknown : List Tree → Type 0
AllUnknown [] = ⊤
AllUnknown (t ∷ ts) = (t ≡ leaf unknown) × AllUnknown ts

-- the first leaf that is open stands on this box, and every leaf after it is unknown
abbrev pub EndsAll : List Pair → List Place → List Tree → Type 0
EndsAll box (p ∷ ps) (t ∷ ts) = ((has_open t ≡ false) × EndsAll box ps ts) ⊎ (EndsAt box p.box t × AllUnknown ts)
EndsAll box ps ts = ⊥

-- ---- what has been written so far

-- the tree that the lines so far, with the picks of their sums, become with these trees at their end
pub record Whole (choose : ℕ → List Pair → Cut) (flat : Flat) (out : List Line) (picked : List Pick) (made drawn deepest room : ℕ) (places : List Place) (ts : List Tree) : Type 0 where
  pub tree : Tree
  pub lines : lines_of tree ≡ out ++ lines_all ts
  pub picks : picks_of tree ≡ picked ++ picks_all ts
  pub cuts : cuts_of tree ≡ made + cuts_all ts
  pub opens : has_open tree ≡ any_open ts
  pub depth : depth_of tree ≡ max deepest (depth_all places ts)
  pub way : any_open ts ≡ true → way_down flat.bounds.pairs tree ≡ way_all places ts
  pub accepted : Accepted flat room flat.bounds.pairs 0 tree
  pub guided : Guided choose flat flat.bounds.pairs 0 tree
  pub ends : (box : List Pair) → EndsAll box places ts → EndsAt box flat.bounds.pairs tree

-- the lines and picks so far, of so many cuts and decisions and with at most `deepest` cuts above one another,
-- become an accepted and guided tree with whatever such trees the places are given
abbrev pub Grown : (ℕ → List Pair → Cut) → Flat → List Line → List Pick → ℕ → ℕ → ℕ → List Place → Type 0
Grown choose flat out picked made drawn deepest places =
    (room : ℕ) (ts : List Tree) → deepest ≤ room → AcceptedAll flat room places ts → GuidedAll choose flat drawn places ts
    → Whole choose flat out picked made drawn deepest room places ts
