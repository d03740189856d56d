-- Rules, arguments and phases as contracts speak of them.
use Rattle.std.specs.Prelude.{List, [], ◌∷◌, Option}
use Rattle.osc_base.specs.declared.fault.Place.{Place}
use Rattle.dsl_tree.specs.declared.parts.Ident.{Ident}
use Rattle.dsl_tree.specs.declared.rules.KeepKind.{KeepKind}
use Rattle.dsl_tree.specs.declared.phases.CompKind.{CompKind}
use Rattle.dsl_tree.specs.declared.phases.InvokeHead.{InvokeHead}
use Rattle.dsl_tree.specs.ExprTree.{ExprTree}

-- a path is the expression that has the path's spelling
pub data RuleTree : Type 0 where
  Keep : (place : Place) (kind : KeepKind) (expr : ExprTree) → RuleTree
  Remove : (place : Place) (path : ExprTree) → RuleTree

pub record ArgumentTree : Type 0 where
  pub name : Option Ident
  pub value : ExprTree

pub record ModifierTree : Type 0 where
  pub name : Ident
  pub arguments : List ArgumentTree

pub data PartTree : Type 0 where
  RulePart : (rule : RuleTree) → PartTree
  ModifierPart : (modifier : ModifierTree) → PartTree

mutual
  pub data PhaseTree : Type 0 where
    Comp : (label : Option Ident) (place : Place) (kind : CompKind) (arguments : List ArgumentTree) (members : PhaseRow) → PhaseTree
    Invoke : (label : Option Ident) (head : InvokeHead) (names : List Ident) (arguments : List ArgumentTree) (parts : List PartTree) → PhaseTree
    Wait : (label : Option Ident) (place : Place) (elapsed : ExprTree) → PhaseTree

  -- the members of a `Comp`, in order
  pub data PhaseRow : Type 0 where
    End : PhaseRow
    Phase : (phase : PhaseTree) (others : PhaseRow) → PhaseRow

-- a row as a list, and a list as a row
abbrev pub phases_of : PhaseRow → List PhaseTree
phases_of End = []
phases_of (Phase phase others) = phase ∷ phases_of others

abbrev pub row_of : List PhaseTree → PhaseRow
row_of [] = End
row_of (phase ∷ others) = Phase phase (row_of others)
