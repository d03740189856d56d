-- Facts on the answer of a search, each for one kind of answer.
use Rattle.std.specs.Prelude.{⊤}
use Rattle.box_eval.specs.declared.point.Point.{Point}
use Rattle.search_laws.specs.record_trees.declared.record.Record.{Record}
use Rattle.seeded_search.specs.declared.outcome.Outcome.{Outcome}

-- the answer is a point, with this fact
abbrev pub IfPoint : Outcome → (Point → Type 0) → Type 0
IfPoint (Outcome.Point point) P = P point
IfPoint (Outcome.Refuted claim) P = ⊤
IfPoint (Outcome.Undecided claim) P = ⊤

-- a refutation
abbrev pub IfRefuted : Outcome → (Record → Type 0) → Type 0
IfRefuted (Outcome.Point point) P = ⊤
IfRefuted (Outcome.Refuted claim) P = P claim
IfRefuted (Outcome.Undecided claim) P = ⊤

-- an undecided record
abbrev pub IfUndecided : Outcome → (Record → Type 0) → Type 0
IfUndecided (Outcome.Point point) P = ⊤
IfUndecided (Outcome.Refuted claim) P = ⊤
IfUndecided (Outcome.Undecided claim) P = P claim
