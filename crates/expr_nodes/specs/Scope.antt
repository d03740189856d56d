-- Where an expression stands: what its names mean.
use Rattle.std.specs.Prelude.{ℕ, Bool, List, Option}
use Rattle.type_model.specs.osc_base.declared.path.Path.{Path}
use Rattle.expr_nodes.specs.Kinds.{Made}

-- what `it` stands for: a field or an invoked object of that type, with the number of elements of a list; or an object that its invocation
-- doesn't tell
pub data It : Type 0 where
  Of : (type : ℕ) (length : Option ℕ) → It
  Unresolved : It

-- A label of a phase, the phase's path from the object, and what it makes. It is hidden if it stands in a member of a `one_of` outside which
-- the expression stands.
pub record Label : Type 0 where
  pub name : List ℕ
  pub path : Path
  pub made : Made
  pub hidden : Bool

-- the type in whose declaration or extension the expression is written, what `it` is, and the labels of the type's `do`
pub record Scope : Type 0 where
  pub holder : ℕ
  pub it : Option It
  pub labels : List Label
