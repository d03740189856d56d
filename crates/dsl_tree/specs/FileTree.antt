-- Members, declarations and files as contracts speak of them. What holds no expression is the
-- program's own type.
use Rattle.std.specs.Prelude.{List, Option}
use Rattle.osc_base.specs.declared.fault.Place.{Place}
use Rattle.dsl_tree.specs.declared.parts.Ident.{Ident}
use Rattle.dsl_tree.specs.declared.parts.QName.{QName}
use Rattle.dsl_tree.specs.declared.file.Import.{Import}
use Rattle.dsl_tree.specs.declared.units.PhysicalDecl.{PhysicalDecl}
use Rattle.dsl_tree.specs.declared.units.UnitDecl.{UnitDecl}
use Rattle.dsl_tree.specs.declared.enums.EnumDecl.{EnumDecl}
use Rattle.dsl_tree.specs.declared.enums.EnumExtension.{EnumExtension as Extension}
use Rattle.dsl_tree.specs.declared.compounds.CompoundKind.{CompoundKind}
use Rattle.dsl_tree.specs.declared.compounds.Heir.{Heir}
use Rattle.dsl_tree.specs.ExprTree.{ExprTree}
use Rattle.dsl_tree.specs.PhaseTree.{RuleTree, ModifierTree, PhaseTree}

pub record FieldTree : Type 0 where
  pub names : List Ident
  pub list : Option Place
  pub of : Ident
  pub initial : Option ExprTree
  pub rules : List RuleTree

-- tools/write-members writes the rows
pub data MemberTree : Type 0 where
  Field : (field : FieldTree) → MemberTree
  Rule : (rule : RuleTree) → MemberTree
  Do : (place : Place) (phase : PhaseTree) → MemberTree

pub record CompoundTree : Type 0 where
  pub place : Place
  pub kind : CompoundKind
  pub name : QName
  pub heir : Option Heir
  pub members : List MemberTree

pub record MoreTree : Type 0 where
  pub place : Place
  pub name : QName
  pub members : List MemberTree

pub data DeclarationTree : Type 0 where
  TypeDeclaration : (declaration : PhysicalDecl) → DeclarationTree
  UnitDeclaration : (declaration : UnitDecl) → DeclarationTree
  EnumDeclaration : (declaration : EnumDecl) → DeclarationTree
  CompoundDeclaration : (declaration : CompoundTree) → DeclarationTree
  MemberExtension : (extension : MoreTree) → DeclarationTree
  EnumExtension : (extension : Extension) → DeclarationTree

-- a part of a modifier: a parameter with its type, a rule, or another modifier that is applied
pub data ModifierPartTree : Type 0 where
  Parameter : (name of : Ident) → ModifierPartTree
  ModifierRule : (rule : RuleTree) → ModifierPartTree
  Application : (modifier : ModifierTree) → ModifierPartTree

pub record ModifierDeclTree : Type 0 where
  pub place : Place
  pub name : Ident
  pub parts : List ModifierPartTree

pub record FileTree : Type 0 where
  pub imports : List Import
  pub modifiers : List ModifierDeclTree
  pub decls : List DeclarationTree
  pub end : Place
