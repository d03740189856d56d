-- What a desk holds that was made for a flat form and a greatest number of cuts.
use Rattle.std.specs.Prelude.{◌≡◌, ℕ, ◌+◌, ◌*◌, ◌≤◌, List, [], ◌∷◌, length, Option, Some, None, MatchOption}
use Rattle.box_eval.specs.declared.flat.Flat.{Flat}
use Rattle.search_laws.specs.linear_sums.declared.pick.Facing.{Facing}
use Rattle.search_laws.specs.linear_sums.declared.pick.Pick.{Pick}
use Rattle.search_laws.specs.linear_sums.FacingPairs.{NoneFacing, IsFirstFacing}
use Rattle.seeded_search.specs.declared.desk.Desk.{Desk}
use Rattle.search_laws.specs.State.{most_picks}
use Rattle.seeded_search.specs.Listed.{IsListed}

-- the two rules of a facing pair, if there is one
abbrev pub facing_picks : Option Facing → List Pick
facing_picks None = []
facing_picks (Some f) = f.first ∷ f.second ∷ []

-- the picks of the first facing pair that is false, or none where no pair is
pub record IsFaced (flat : Flat) (picks : List Pick) : Type 0 where
  pub facing : Option Facing
  pub first : MatchOption facing (NoneFacing flat) (IsFirstFacing flat)
  pub picks_are : picks ≡ facing_picks facing

-- the lists of the flat form and its first false facing pair; and room for twice as many lines as cuts, and one, for as many decisions as cuts, for a mark on each rule, for the factors and rules of sums, and for a point
pub record IsDesk (flat : Flat) (cuts : ℕ) (desk : Desk) : Type 0 where
  pub listed : IsListed flat desk.lists
  pub faced : IsFaced flat desk.sum
  pub script : desk.script ≡ record { lines = []; room = 2 * cuts + 1 }
  pub decisions : desk.decisions ≡ record { items = []; room = cuts }
  pub marks : desk.marks ≡ record { listed = []; bound = length flat.rules }
  pub picks : desk.picks.items ≡ []
  pub few_picks : desk.picks.room ≤ most_picks
  pub sums : desk.sums ≡ length flat.bounds.pairs
  pub values : length desk.values.items ≡ length flat.bounds.pairs
