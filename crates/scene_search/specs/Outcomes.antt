-- What the search of a flat form answers, whatever it leaves in the trail and the ring. This is no part of the meaning.
use Rattle.std.specs.Prelude.{ℕ, ◌≡◌, ◌≤◌, List, length, ℤ}
use Rattle.box_eval.specs.declared.bounds.Pair.{Pair}
use Rattle.box_eval.specs.declared.cut.Cut.{Cut}
use Rattle.box_eval.specs.declared.flat.Flat.{Flat}
use Rattle.seeded_search.specs.record_trees.declared.record.Record.{Record}
use Rattle.box_eval.specs.Box.{IsPointOf}
use Rattle.seeded_search.specs.record_trees.Guided.{IsGuidedRefutation, IsReached, IsSpent}
use Rattle.seeded_search.specs.record_trees.Record.{Tree, cuts_of, depth_of}
use Rattle.box_eval.specs.Rules.{Meets}
use Rattle.seeded_search.specs.search_laws.State.{most_picks}
use Rattle.seeded_search.specs.declared.outcome.Outcome.{Outcome}

-- a point of the box that meets all rules, and is reached
pub record IsReachedOutcome (choose : ℕ → List Pair → Cut) (cuts : ℕ) (flat : Flat) (values : List ℤ) : Type 0 where
  pub of_box : IsPointOf flat.bounds.pairs values
  pub meets : Meets values flat.rules
  pub claim : Record
  pub tree : Tree
  pub reached : IsReached choose cuts flat values claim tree

-- a refutation that is guided, of at most so many cuts, whose room is the depth of its tree and whose sums have at most 262,144 rules together
pub record IsGuidedOutcome (choose : ℕ → List Pair → Cut) (cuts : ℕ) (flat : Flat) (claim : Record) : Type 0 where
  pub tree : Tree
  pub refutation : IsGuidedRefutation choose flat claim tree
  pub cuts_are : cuts_of tree ≤ cuts
  pub room : claim.room ≡ depth_of tree
  pub few_picks : length claim.picks ≤ most_picks

-- a record that is spent, whose room is the depth of its tree
pub record IsSpentOutcome (choose : ℕ → List Pair → Cut) (cuts : ℕ) (flat : Flat) (claim : Record) : Type 0 where
  pub tree : Tree
  pub box : List Pair
  pub spent : IsSpent choose cuts flat claim tree box
  pub room : claim.room ≡ depth_of tree
  pub few_picks : length claim.picks ≤ most_picks

-- what is answered by a choice of cuts and at most so many of them
abbrev pub IsOutcome : (ℕ → List Pair → Cut) → ℕ → Flat → Outcome → Type 0
IsOutcome choose cuts flat (Outcome.Point point) = IsReachedOutcome choose cuts flat point.values
IsOutcome choose cuts flat (Outcome.Refuted claim) = IsGuidedOutcome choose cuts flat claim
IsOutcome choose cuts flat (Outcome.Undecided claim) = IsSpentOutcome choose cuts flat claim
