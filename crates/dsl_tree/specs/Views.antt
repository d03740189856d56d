-- The tree of each value of the program's own types.
--
-- Each field of each type goes into the tree. Two values with one tree are both spelled by no tokens:
-- `Or`, `And`, `Sum` and `Product` with an empty `rest` have one tree, and so have `Dot` and `Index`
-- with empty `suffixes`.
use Rattle.std.specs.Prelude.{List, [], ◌∷◌, map, option_map}
use Rattle.osc_base.specs.declared.fault.Place.{Place}
use Rattle.dsl_tree.specs.declared.parts.Ident.{Ident}
use Rattle.dsl_tree.specs.declared.expr.Operator.{Operator}
use Rattle.dsl_tree.specs.declared.expr.Expr.{Expr}
use Rattle.dsl_tree.specs.declared.expr.Suffix.{Suffix}
use Rattle.dsl_tree.specs.declared.expr.Further.{Further}
use Rattle.dsl_tree.specs.declared.expr.Expr.TheOpen.{Expr-F, Suffix-F, Further-F}
use Rattle.dsl_tree.specs.declared.expr.Expr.TheFolds.{fold-Expr, fold-Suffix, fold-Further}
use Rattle.dsl_tree.specs.declared.rules.RuleDecl.{RuleDecl}
use Rattle.dsl_tree.specs.declared.rules.PathHead.{PathHead}
use Rattle.dsl_tree.specs.declared.rules.PathNode.{PathNode}
use Rattle.dsl_tree.specs.declared.phases.Argument.{Argument}
use Rattle.dsl_tree.specs.declared.phases.ModifierNode.{ModifierNode}
use Rattle.dsl_tree.specs.declared.phases.InvokePart.{InvokePart}
use Rattle.dsl_tree.specs.declared.phases.Phase.{Phase}
use Rattle.dsl_tree.specs.declared.phases.CompNode.{CompNode}
use Rattle.dsl_tree.specs.declared.phases.Phase.TheOpen.{Phase-F, CompNode-F}
use Rattle.dsl_tree.specs.declared.phases.Phase.TheFolds.{fold-Phase, fold-CompNode}
use Rattle.dsl_tree.specs.declared.compounds.FieldDecl.{FieldDecl}
use Rattle.dsl_tree.specs.declared.compounds.Member.{Member}
use Rattle.dsl_tree.specs.declared.compounds.CompoundDecl.{CompoundDecl}
use Rattle.dsl_tree.specs.declared.compounds.MemberExtension.{MemberExtension}
use Rattle.dsl_tree.specs.declared.modifiers.ModifierPart.{ModifierPart}
use Rattle.dsl_tree.specs.declared.modifiers.ModifierDecl.{ModifierDecl}
use Rattle.dsl_tree.specs.declared.file.Declaration.{Declaration}
use Rattle.dsl_tree.specs.declared.file.File.{File}
use Rattle.dsl_tree.specs.ExprTree as ExprTrees
use Rattle.dsl_tree.specs.ExprTree.{ExprTree}
use Rattle.dsl_tree.specs.PhaseTree as PhaseTrees
use Rattle.dsl_tree.specs.PhaseTree.{RuleTree, ArgumentTree, ModifierTree, PartTree, PhaseTree}
use Rattle.dsl_tree.specs.FileTree.{FieldTree, MemberTree, CompoundTree, MoreTree, DeclarationTree, ModifierPartTree, ModifierDeclTree, FileTree}

-- Expressions

-- an operator with the part after it, and a suffix
pub record FurtherTree : Type 0 where
  pub place : Place
  pub operator : Operator
  pub part : ExprTree

pub data SuffixTree : Type 0 where
  Named : (name : Ident) → SuffixTree
  At : (place : Place) (index : ExprTree) → SuffixTree

-- a row of operators, grouped from the left
abbrev pub grouped : (Place → Operator → ExprTree → ExprTree → ExprTree) → ExprTree → List FurtherTree → ExprTree
grouped join left [] = left
grouped join left (next ∷ rest) = grouped join (join next.place next.operator left next.part) rest

-- a tree with suffixes after it
abbrev pub with_suffixes : ExprTree → List SuffixTree → ExprTree
with_suffixes head [] = head
with_suffixes head (Named name ∷ rest) = with_suffixes (ExprTree.Dot head name) rest
with_suffixes head (At place index ∷ rest) = with_suffixes (ExprTree.Index place head index) rest

-- the tree of a row of suffixes, which breaks the grammar if its node isn't named for the last one
abbrev pub named_row : ExprTree → List SuffixTree → ExprTree
named_row tree [] = ExprTree.Start tree
named_row tree (Named name ∷ []) = tree
named_row tree (At place index ∷ []) = ExprTree.Start tree
named_row tree (first ∷ next ∷ rest) = named_row tree (next ∷ rest)

abbrev pub indexed_row : ExprTree → List SuffixTree → ExprTree
indexed_row tree [] = ExprTree.Start tree
indexed_row tree (Named name ∷ []) = ExprTree.Start tree
indexed_row tree (At place index ∷ []) = tree
indexed_row tree (first ∷ next ∷ rest) = indexed_row tree (next ∷ rest)

abbrev pub expr_step : Expr-F ExprTree SuffixTree FurtherTree → ExprTree
expr_step (Expr-F.Implies place left right) = ExprTree.Implies place left right
expr_step (Expr-F.Or first rest) = grouped ExprTree.Or (ExprTree.Start first) rest
expr_step (Expr-F.And first rest) = grouped ExprTree.And (ExprTree.Start first) rest
expr_step (Expr-F.Not place part) = ExprTree.Not place part
expr_step (Expr-F.Relation place sign left right) = ExprTree.Relation place sign left right
expr_step (Expr-F.Sum first rest) = grouped ExprTree.Sum (ExprTree.Start first) rest
expr_step (Expr-F.Product first rest) = grouped ExprTree.Product (ExprTree.Start first) rest
expr_step (Expr-F.Minus place part) = ExprTree.Minus place part
expr_step (Expr-F.Expr::Dot head suffixes) = named_row (with_suffixes (ExprTree.Start head) suffixes) suffixes
expr_step (Expr-F.Expr::Index head suffixes) = indexed_row (with_suffixes (ExprTree.Start head) suffixes) suffixes
expr_step (Expr-F.Number number) = ExprTree.Number number
expr_step (Expr-F.Physical number unit) = ExprTree.Physical number unit
expr_step (Expr-F.Chars place text) = ExprTree.Chars place text
expr_step (Expr-F.Truth place value) = ExprTree.Truth place value
expr_step (Expr-F.It place) = ExprTree.It place
expr_step (Expr-F.Actor place) = ExprTree.Actor place
expr_step (Expr-F.Name name) = ExprTree.Name name
expr_step (Expr-F.EnumName of member) = ExprTree.EnumName of member
expr_step (Expr-F.Group place inner) = ExprTree.Group place inner
expr_step (Expr-F.Span place low high) = ExprTree.Span place low high
expr_step (Expr-F.Listed place items) = ExprTree.Listed place (ExprTrees.row_of items)
expr_step (Expr-F.RangeCall place low high) = ExprTree.RangeCall place low high

abbrev pub suffix_step : Suffix-F ExprTree SuffixTree FurtherTree → SuffixTree
suffix_step (Suffix-F.Suffix::Dot name) = Named name
suffix_step (Suffix-F.Suffix::Index place index) = At place index

abbrev pub further_step : Further-F ExprTree SuffixTree FurtherTree → FurtherTree
further_step f = record { place = f.place; operator = f.operator; part = f.part }

abbrev pub expr_tree : Expr → ExprTree
expr_tree = fold-Expr ExprTree SuffixTree FurtherTree expr_step suffix_step further_step

abbrev pub suffix_tree : Suffix → SuffixTree
suffix_tree = fold-Suffix ExprTree SuffixTree FurtherTree expr_step suffix_step further_step

abbrev pub further_tree : Further → FurtherTree
further_tree = fold-Further ExprTree SuffixTree FurtherTree expr_step suffix_step further_step

-- Rules, arguments and phases

abbrev pub head_tree : PathHead → ExprTree
head_tree (PathHead.Name name) = ExprTree.Name name
head_tree (PathHead.It place) = ExprTree.It place
head_tree (PathHead.Actor place) = ExprTree.Actor place

abbrev pub path_row : ExprTree → List SuffixTree → ExprTree
path_row head [] = head
path_row head (first ∷ rest) = with_suffixes (ExprTree.Start head) (first ∷ rest)

abbrev pub path_tree : PathNode → ExprTree
path_tree p = path_row (head_tree p.head) (map suffix_tree p.suffixes)

abbrev pub rule_tree : RuleDecl → RuleTree
rule_tree (RuleDecl.Keep place kind expr) = RuleTree.Keep place kind (expr_tree expr)
rule_tree (RuleDecl.Remove place path) = RuleTree.Remove place (path_tree path)

abbrev pub argument_tree : Argument → ArgumentTree
argument_tree a = record { name = a.name; value = expr_tree a.value }

abbrev pub modifier_tree : ModifierNode → ModifierTree
modifier_tree m = record { name = m.name; arguments = map argument_tree m.arguments }

abbrev pub part_tree : InvokePart → PartTree
part_tree (InvokePart.Rule rule) = PartTree.RulePart (rule_tree rule)
part_tree (InvokePart.Modifier modifier) = PartTree.ModifierPart (modifier_tree modifier)

abbrev pub comp_step : CompNode-F PhaseTree PhaseTree → PhaseTree
comp_step c = PhaseTree.Comp c.label c.place c.kind (map argument_tree c.arguments) (PhaseTrees.row_of c.members)

abbrev pub phase_step : Phase-F PhaseTree PhaseTree → PhaseTree
phase_step (Phase-F.Comp comp) = comp
phase_step (Phase-F.Invoke i) = PhaseTree.Invoke i.label i.head i.names (map argument_tree i.arguments) (map part_tree i.parts)
phase_step (Phase-F.Wait w) = PhaseTree.Wait w.label w.place (expr_tree w.elapsed)

abbrev pub phase_tree : Phase → PhaseTree
phase_tree = fold-Phase PhaseTree PhaseTree phase_step comp_step

abbrev pub comp_tree : CompNode → PhaseTree
comp_tree = fold-CompNode PhaseTree PhaseTree phase_step comp_step

-- Members, declarations and files

abbrev pub field_tree : FieldDecl → FieldTree
field_tree f = record { names = f.names; list = f.list; of = f.of; initial = option_map expr_tree f.initial; rules = map rule_tree f.rules }

-- tools/write-members writes the rows
abbrev pub member_tree : Member → MemberTree
member_tree (Member.Field field) = MemberTree.Field (field_tree field)
member_tree (Member.Rule rule) = MemberTree.Rule (rule_tree rule)
member_tree (Member.Do place phase) = MemberTree.Do place (phase_tree phase)

abbrev pub compound_tree : CompoundDecl → CompoundTree
compound_tree c = record { place = c.place; kind = c.kind; name = c.name; heir = c.heir; members = map member_tree c.members }

abbrev pub more_tree : MemberExtension → MoreTree
more_tree m = record { place = m.place; name = m.name; members = map member_tree m.members }

abbrev pub declaration_tree : Declaration → DeclarationTree
declaration_tree (Declaration.Physical d) = DeclarationTree.TypeDeclaration d
declaration_tree (Declaration.Unit d) = DeclarationTree.UnitDeclaration d
declaration_tree (Declaration.Enum d) = DeclarationTree.EnumDeclaration d
declaration_tree (Declaration.Compound d) = DeclarationTree.CompoundDeclaration (compound_tree d)
declaration_tree (Declaration.MemberExtension d) = DeclarationTree.MemberExtension (more_tree d)
declaration_tree (Declaration.EnumExtension d) = DeclarationTree.EnumExtension d

abbrev pub modifier_part_tree : ModifierPart → ModifierPartTree
modifier_part_tree (ModifierPart.Parameter name of) = ModifierPartTree.Parameter name of
modifier_part_tree (ModifierPart.Rule rule) = ModifierPartTree.ModifierRule (rule_tree rule)
modifier_part_tree (ModifierPart.Apply modifier) = ModifierPartTree.Application (modifier_tree modifier)

abbrev pub modifier_decl_tree : ModifierDecl → ModifierDeclTree
modifier_decl_tree m = record { place = m.place; name = m.name; parts = map modifier_part_tree m.parts }

abbrev pub file_tree : File → FileTree
file_tree f = record { imports = f.imports; modifiers = map modifier_decl_tree f.modifiers; decls = map declaration_tree f.decls; end = f.end }
