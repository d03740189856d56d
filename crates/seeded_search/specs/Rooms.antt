-- What contracts see of the parts of a desk, each with the room that was made for it.
use Rattle.std.specs.Prelude.{ℕ, List, [], ◌∷◌, ◌++◌, if◌then◌else◌}
use Rattle.wake_ring.specs.Queue.{is_in}
use Rattle.box_eval.specs.declared.cut.Cut.{Cut}
use Rattle.search_laws.specs.linear_sums.declared.pick.Pick.{Pick}
use Rattle.search_laws.specs.record_trees.declared.record.Line.{Line}
use Rattle.search_laws.specs.declared.decision.Decision.{Decision}

-- the lines of a record, and how many there may be
pub record Page : Type 0 where
  pub lines : List Line
  pub room : ℕ

-- the rules of a record's sums, and how many there may be
pub record Picked : Type 0 where
  pub items : List Pick
  pub room : ℕ

-- the decisions whose second part is untried, the newest first, and how many there may be
pub record Pile : Type 0 where
  pub items : List Decision
  pub room : ℕ

-- the marked numbers in the order in which they were marked, and the number that each is below
pub record Marked : Type 0 where
  pub listed : List ℕ
  pub bound : ℕ

-- one number more, unless it is marked
abbrev pub with_mark : ℕ → Marked → Marked
with_mark number m = if is_in number m.listed then m else record m { listed = m.listed ++ number ∷ [] }

-- a seed, and how many of its numbers were taken
pub record Drawing : Type 0 where
  pub seed : ℕ
  pub count : ℕ

-- a decision of a box below so many cuts, made when so many rules were marked
abbrev pub decision_of : Cut → ℕ → ℕ → Decision
decision_of cut mark marked = record { cut = cut; mark = mark; marked = marked }
