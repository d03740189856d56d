-- The types of a program, with their members as written.
use Rattle.std.specs.Prelude.{ℕ, List, Option}
use Rattle.units_si.specs.osc_base.declared.fault.Place.{Place}
use Rattle.name_scope.specs.dsl_tree.declared.parts.Ident.{Ident}
use Rattle.name_scope.specs.dsl_tree.declared.compounds.Heir.{Heir}
use Rattle.name_scope.specs.dsl_tree.PhaseTree.{PhaseTree}
use Rattle.name_scope.specs.dsl_tree.FileTree.{FieldTree, MemberTree, FileTree}
use Rattle.type_heads.specs.Table.{Table}

-- a program: its files in load order, and the number of the library if it is one of them
pub record Program : Type 0 where
  pub files : List FileTree
  pub library : Option ℕ

-- a member as written: the numbers of its file, of its declaration there, and of the member in that
pub record Written : Type 0 where
  pub file : ℕ
  pub declaration : ℕ
  pub index : ℕ
  pub member : MemberTree

-- The body of a type: where its name stands, what it inherits from as written, the members of its declaration, and those of its extensions
-- in load order.
pub record TypeBody : Type 0 where
  pub place : Place
  pub heir : Option Heir
  pub own : List Written
  pub more : List Written

-- A member of a type: the type in whose declaration or extension it is written, and the conditional subtypes that it is under, outermost
-- first.
pub record Member : Type 0 where
  pub written : Written
  pub holder : ℕ
  pub under : List ℕ

-- one name of a member that declares fields
pub record Field : Type 0 where
  pub name : Ident
  pub tree : FieldTree
  pub holder : ℕ
  pub under : List ℕ

-- the `do` of a scenario: the type in whose declaration or extension it is written, where it stands, and its phase
pub record Do : Type 0 where
  pub holder : ℕ
  pub place : Place
  pub phase : PhaseTree
  pub under : List ℕ

-- the bodies of all types, the number of the library's file, the members of each type, and the table of all that expressions look up
pub record Types : Type 0 where
  pub bodies : List TypeBody
  pub library : Option ℕ
  pub members : List (List Member)
  pub table : Table
