-- The state of the search, and what holds of it at the start of each turn and of each decision.
use Rattle.std.specs.Prelude.{◌≡◌, ℕ, ◌+◌, ◌-◌, ◌*◌, ◌<◌, ◌≤◌, true, false, List, [], ◌∷◌, length, get_or, take, slice_get, Some, ⊤}
use Rattle.wake_ring.specs.Queue.{is_in}
use Rattle.box_eval.specs.declared.rule.Rule.{Rule}
use Rattle.box_eval.specs.declared.bounds.Pair.{Pair}
use Rattle.box_eval.specs.declared.cut.Cut.{Cut}
use Rattle.box_eval.specs.declared.cut.Side.{Side}
use Rattle.box_eval.specs.declared.flat.Flat.{Flat}
use Rattle.linear_sums.specs.declared.pick.Pick.{Pick}
use Rattle.record_trees.specs.declared.record.Line.{Line}
use Rattle.box_eval.specs.declared.verdict.Verdict.TheVariants.{True}
use Rattle.box_eval.specs.Box.{IsBox, IsInside, IsCutOf, second_part}
use Rattle.box_eval.specs.Verdict.{verdict_of}
use Rattle.box_eval.specs.Reads.{reads}
use Rattle.linear_sums.specs.FacingPairs.{NoneFacing}
use Rattle.record_trees.specs.Guided.{IsDeadEnd, IsSettledFor, IsSettled}
use Rattle.search_laws.specs.declared.decision.Decision.{Decision}
use Rattle.search_laws.specs.Forest.{Place, place, Grown}

pub record State : Type 0 where
  -- the boxes of the trail
  pub boxes : List (List Pair)
  -- the numbers of the rules that wait
  pub queue : List ℕ
  -- the lines of the record so far
  pub out : List Line
  -- the rules of the sums so far, line by line
  pub picked : List Pick
  -- the decisions whose second part is untried, the newest first
  pub decisions : List Decision
  -- the numbers of the rules that are done
  pub marks : List ℕ
  -- the number of cuts, the number of them that are decisions, and the greatest number of them above one another
  pub made : ℕ
  pub drawn : ℕ
  pub deepest : ℕ

-- the most rules that all sums of a search have together
abbrev pub most_picks : ℕ
most_picks = 262144

-- the last of a list of boxes
abbrev pub last_of : List (List Pair) → List Pair
last_of boxes = get_or boxes (length boxes - 1) []

-- the last box, and the boxes above it
abbrev pub last_place : List (List Pair) → Place
last_place boxes = place (take (length boxes - 1) boxes) (last_of boxes)

-- ---- rules

-- a rule that doesn't wait is settled
abbrev pub IsLively : List Rule → List Pair → List ℕ → Type 0
IsLively rules ends queue = (k : ℕ) (rule : Rule) → slice_get rules k ≡ Some rule → is_in k queue ≡ false → IsSettledFor ends rule

-- a rule that is marked is true
abbrev pub AllDone : List Rule → List Pair → List ℕ → Type 0
AllDone rules ends marks = (k : ℕ) (rule : Rule) → slice_get rules k ≡ Some rule → is_in k marks ≡ true → verdict_of ends rule ≡ True

-- a rule with a dead end waits
abbrev pub DeadEndsWait : List Rule → List Pair → List ℕ → Type 0
DeadEndsWait rules ends queue = (k : ℕ) (rule : Rule) → slice_get rules k ≡ Some rule → (side : Side) (slot : ℕ) → IsDeadEnd ends rule side slot → is_in k queue ≡ true

-- ---- decisions

-- the box that a decision divides
abbrev pub decided_box : List (List Pair) → Decision → List Pair
decided_box boxes d = get_or boxes d.mark []

-- a decision was made in a settled box, and the rules that were marked by then are true there
pub record IsStanding (rules : List Rule) (root : List Pair) (boxes : List (List Pair)) (marks : List ℕ) (d : Decision) : Type 0 where
  pub mark : d.mark + 1 < length boxes
  pub marked : d.marked ≤ length marks
  pub is_box : IsBox (decided_box boxes d)
  pub inside : IsInside (decided_box boxes d) root
  pub settled : IsSettled rules (decided_box boxes d)
  pub done : AllDone rules (decided_box boxes d) (take d.marked marks)
  pub cuts : IsCutOf (decided_box boxes d) d.cut

-- each of them does, at the boxes and marks that it goes back to
abbrev pub AllStanding : List Rule → List Pair → List (List Pair) → List ℕ → List Decision → Type 0
AllStanding rules root boxes marks [] = ⊤
AllStanding rules root boxes marks (d ∷ ds) = IsStanding rules root boxes marks d × AllStanding rules root (take (d.mark + 1) boxes) (take d.marked marks) ds

-- the second parts of the decisions
abbrev pub untried : List (List Pair) → List Decision → List Place
untried boxes [] = []
untried boxes (d ∷ ds) = place (take (d.mark + 1) boxes) (second_part d.cut (decided_box boxes d)) ∷ untried (take (d.mark + 1) boxes) ds

-- ---- the invariant

pub record IsSearching (choose : ℕ → List Pair → Cut) (flat : Flat) (cuts : ℕ) (s : State) : Type 0 where
  -- false facing pairs are looked for first
  pub none_facing : NoneFacing flat
  -- the lines so far want a tree for the present box, and one for the second part of each decision
  pub grown : Grown choose flat s.out s.picked s.made s.drawn s.deepest (last_place s.boxes ∷ untried s.boxes s.decisions)
  pub standing : AllStanding flat.rules flat.bounds.pairs s.boxes s.marks s.decisions
  pub done : AllDone flat.rules (last_of s.boxes) s.marks
  pub lively : IsLively flat.rules (last_of s.boxes) s.queue
  pub is_box : IsBox (last_of s.boxes)
  pub inside : IsInside (last_of s.boxes) flat.bounds.pairs
  pub root_is : get_or s.boxes 0 [] ≡ flat.bounds.pairs
  pub some : 0 < length s.boxes
  pub lines : length s.out + length s.decisions ≡ 2 * s.made
  pub few_cuts : s.made ≤ cuts
  pub few_drawn : s.drawn ≤ s.made
  pub few_open : length s.decisions ≤ s.made
  pub deep : length s.boxes ≤ s.deepest + 1
  pub few_deep : s.deepest ≤ s.made
  pub few_picks : length s.picked ≤ most_picks

-- the present box is closed: the lines so far want a tree for the second part of each decision alone
pub record IsClosed (choose : ℕ → List Pair → Cut) (flat : Flat) (cuts : ℕ) (s : State) : Type 0 where
  pub none_facing : NoneFacing flat
  pub grown : Grown choose flat s.out s.picked s.made s.drawn s.deepest (untried s.boxes s.decisions)
  pub standing : AllStanding flat.rules flat.bounds.pairs s.boxes s.marks s.decisions
  pub root_is : get_or s.boxes 0 [] ≡ flat.bounds.pairs
  pub some : 0 < length s.boxes
  pub lines : length s.out + length s.decisions ≡ 2 * s.made + 1
  pub few_cuts : s.made ≤ cuts
  pub few_drawn : s.drawn ≤ s.made
  pub few_open : length s.decisions ≤ s.made
  pub deep : length s.boxes ≤ s.deepest + 1
  pub few_deep : s.deepest ≤ s.made
  pub few_picks : length s.picked ≤ most_picks

-- ---- what a change of a slot wakes

-- what waited waits, and each rule over the slot waits or is marked
pub record IsWoken (rules : List Rule) (slot : ℕ) (marks queue later : List ℕ) : Type 0 where
  pub kept : (k : ℕ) → is_in k later ≡ false → is_in k queue ≡ false
  pub over : (k : ℕ) (rule : Rule) → slice_get rules k ≡ Some rule → reads rule slot ≡ true → is_in k later ≡ false → is_in k marks ≡ true
