-- Expressions that are names or paths.
use Rattle.std.specs.Prelude.{Bool, true, false, List, [], ◌∷◌, Option, Some, None}
use Rattle.dsl_tree.specs.declared.parts.Ident.{Ident}
use Rattle.dsl_tree.specs.ExprTree.{ExprTree}

-- the name that an expression is
abbrev pub name_in : ExprTree → Option Ident
name_in (ExprTree.Name i) = Some i
name_in _ = None

-- the name with which a path begins
abbrev pub head_in : ExprTree → Option Ident
head_in (ExprTree.Name i) = Some i
head_in (ExprTree.Dot head i) = head_in head
head_in (ExprTree.Index place head index) = head_in head
head_in (ExprTree.Start part) = head_in part
head_in _ = None

-- a list without items
abbrev pub is_nil : {X : Type 0} → List X → Bool
is_nil [] = true
is_nil (x ∷ xs) = false
