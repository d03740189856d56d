-- The cuts whose second part wasn't read yet.
use Rattle.std.specs.Prelude.{ℕ, List, [], ◌∷◌, Option, Some, None}
use Rattle.refute_check.specs.declared.stack.Pending.{Pending}

-- those cuts, the latest first, and how many there may be
pub record Stacked : Type 0 where
  pub items : List Pending
  pub room : ℕ

-- the first of a list, if there is one, and the others
abbrev pub popped : List Pending → Option Pending
popped [] = None
popped (d ∷ ds) = Some d

abbrev pub rest : List Pending → List Pending
rest [] = []
rest (d ∷ ds) = ds
