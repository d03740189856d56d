-- What the search answers, and what it leaves in the trail and the ring.
use Prim.Native.Nat.{zero, suc}
use Rattle.std.specs.Prelude.{◌≡◌, ℕ, ◌≤◌, Bool, List, [], ◌∷◌, length, ℤ}
use Rattle.box_eval.specs.declared.bounds.Pair.{Pair}
use Rattle.box_eval.specs.declared.cut.Cut.{Cut}
use Rattle.box_eval.specs.declared.flat.Flat.{Flat}
use Rattle.linear_sums.specs.declared.pick.Pick.{Pick}
use Rattle.record_trees.specs.declared.record.Record.{Record}
use Rattle.record_trees.specs.declared.record.Line.{Line}
use Rattle.record_trees.specs.declared.record.Line.TheVariants as L
use Rattle.box_eval.specs.Box.{IsPointOf}
use Rattle.box_eval.specs.Rules.{Meets}
use Rattle.record_trees.specs.Record.{Tree, cuts_of, depth_of}
use Rattle.record_trees.specs.Guided.{way_down, IsGuidedRefutation, IsSpent, IsReached}
use Rattle.search_laws.specs.State.{most_picks, last_of, DeadEndsWait}

-- ---- what each answer says

-- a point of the box that meets all rules and is reached by some record.
-- The trail holds the boxes from the flat form's down to the point's, and the ring is empty
pub record IsPointAnswer (choose : ℕ → List Pair → Cut) (cuts : ℕ) (flat : Flat) (values : List ℤ) (boxes : List (List Pair)) (queue : List ℕ) : Type 0 where
  pub of_box : IsPointOf flat.bounds.pairs values
  pub meets : Meets values flat.rules
  pub claim : Record
  pub tree : Tree
  pub reached : IsReached choose cuts flat values claim tree
  pub trail : boxes ≡ way_down flat.bounds.pairs tree
  pub ring : queue ≡ []

-- a refutation each of whose decisions is chosen, of at most so many cuts. The trail holds the flat form's box alone
pub record IsRefutedAnswer (choose : ℕ → List Pair → Cut) (cuts : ℕ) (flat : Flat) (claim : Record) (boxes : List (List Pair)) : Type 0 where
  pub tree : Tree
  pub refutation : IsGuidedRefutation choose flat claim tree
  pub cuts_are : cuts_of tree ≤ cuts
  pub room : claim.room ≡ depth_of tree
  pub few_picks : length claim.picks ≤ most_picks
  pub trail : boxes ≡ flat.bounds.pairs ∷ []

-- an undecided record of exactly so many cuts each of whose decisions is chosen.
-- The trail holds the boxes from the flat form's down to the one at which the record ends, and each rule with a dead end there is in the ring
pub record IsUndecidedAnswer (choose : ℕ → List Pair → Cut) (cuts : ℕ) (flat : Flat) (claim : Record) (boxes : List (List Pair)) (queue : List ℕ) : Type 0 where
  pub tree : Tree
  pub spent : IsSpent choose cuts flat claim tree (last_of boxes)
  pub room : claim.room ≡ depth_of tree
  pub few_picks : length claim.picks ≤ most_picks
  pub trail : boxes ≡ way_down flat.bounds.pairs tree
  pub ring : DeadEndsWait flat.rules (last_of boxes) queue

-- ---- the lines that finish a record

-- so many lines that leave a box unknown
abbrev pub unknown_lines : ℕ → List Line
unknown_lines zero = []
unknown_lines (suc n) = L.Unknown ∷ unknown_lines n

-- the record of a flat form with this room, these lines and these picks
abbrev pub claim_of : Flat → Bool → ℕ → List Line → List Pick → Record
claim_of flat undecided room lines picks =
    record { undecided = undecided; slots = length flat.bounds.pairs; rules = length flat.rules; room = room; lines = lines; picks = picks }

-- the one line of a record that closes the flat form's box by the sum of two rules
abbrev pub sum_of_two : List Line
sum_of_two = L.Sum 2 ∷ []
