-- The texts that a string may hold: those of all string expressions, and the empty text.
use Rattle.std.specs.Prelude.{ℕ, cond, List, [], ◌∷◌, ◌++◌, flat_map, fold, option_to_list}
use Rattle.std.specs.Ordering.{is_lt, is_eq, nat_cmp}
use Rattle.std.specs.Cmp.Lexicographic.{slice_cmp}
use Rattle.name_scope.specs.dsl_tree.ExprTree.{ExprTree, Implies, Or, And, Not, Relation, Sum, Product, Minus, Dot, Index, Number, Physical, Chars, Truth, It, Actor, Name, EnumName, Group, Span, Listed, RangeCall, Start, ExprRow, End, Item}
use Rattle.name_scope.specs.dsl_tree.PhaseTree as Phases
use Rattle.name_scope.specs.dsl_tree.PhaseTree.{RuleTree, ArgumentTree, ModifierTree, PartTree, PhaseTree, PhaseRow}
use Rattle.name_scope.specs.dsl_tree.FileTree.{MemberTree, DeclarationTree, FileTree}

-- the texts of the strings in an expression
abbrev mutual
  pub texts_in : ExprTree → List (List ℕ)
  texts_in (Implies place left right) = texts_in left ++ texts_in right
  texts_in (Or place operator left right) = texts_in left ++ texts_in right
  texts_in (And place operator left right) = texts_in left ++ texts_in right
  texts_in (Not place part) = texts_in part
  texts_in (Relation place sign left right) = texts_in left ++ texts_in right
  texts_in (Sum place operator left right) = texts_in left ++ texts_in right
  texts_in (Product place operator left right) = texts_in left ++ texts_in right
  texts_in (Minus place part) = texts_in part
  texts_in (Dot head name) = texts_in head
  texts_in (Index place head index) = texts_in head ++ texts_in index
  texts_in (Number number) = []
  texts_in (Physical number unit) = []
  texts_in (Chars place text) = text ∷ []
  texts_in (Truth place value) = []
  texts_in (It place) = []
  texts_in (Actor place) = []
  texts_in (Name name) = []
  texts_in (EnumName of member) = []
  texts_in (Group place inner) = texts_in inner
  texts_in (Span place low high) = texts_in low ++ texts_in high
  texts_in (Listed place items) = texts_among items
  texts_in (RangeCall place low high) = texts_in low ++ texts_in high
  texts_in (Start first) = texts_in first

  pub texts_among : ExprRow → List (List ℕ)
  texts_among End = []
  texts_among (Item item others) = texts_in item ++ texts_among others

-- the expressions of rules, arguments and phases
abbrev pub rule_exprs : RuleTree → List ExprTree
rule_exprs (RuleTree.Keep place kind expr) = expr ∷ []
rule_exprs (RuleTree.Remove place path) = path ∷ []

-- the values of arguments
abbrev pub argument_exprs : List ArgumentTree → List ExprTree
argument_exprs arguments = flat_map (λ a. a.value ∷ []) arguments

-- the expressions of a rule or modifier
abbrev pub part_exprs : PartTree → List ExprTree
part_exprs (PartTree.RulePart rule) = rule_exprs rule
part_exprs (PartTree.ModifierPart modifier) = argument_exprs modifier.arguments

-- the expressions of a phase and of those in it
abbrev mutual
  pub phase_exprs : PhaseTree → List ExprTree
  phase_exprs (Phases.Comp label place kind arguments members) = argument_exprs arguments ++ row_exprs members
  phase_exprs (Phases.Invoke label head names arguments parts) = argument_exprs arguments ++ flat_map part_exprs parts
  phase_exprs (Phases.Wait label place elapsed) = elapsed ∷ []

  pub row_exprs : PhaseRow → List ExprTree
  row_exprs Phases.End = []
  row_exprs (Phases.Phase phase others) = phase_exprs phase ++ row_exprs others

-- the expressions of a member
abbrev pub member_exprs : MemberTree → List ExprTree
member_exprs (MemberTree.Field f) = option_to_list f.initial ++ flat_map rule_exprs f.rules
member_exprs (MemberTree.Rule rule) = rule_exprs rule
member_exprs (MemberTree.Do place phase) = phase_exprs phase

-- all expressions of a declaration
abbrev pub declaration_exprs : DeclarationTree → List ExprTree
declaration_exprs (DeclarationTree.CompoundDeclaration d) = flat_map member_exprs d.members
declaration_exprs (DeclarationTree.MemberExtension d) = flat_map member_exprs d.members
declaration_exprs (DeclarationTree.TypeDeclaration d) = []
declaration_exprs (DeclarationTree.UnitDeclaration d) = []
declaration_exprs (DeclarationTree.EnumDeclaration d) = []
declaration_exprs (DeclarationTree.EnumExtension d) = []

-- a text put in its place in byte order, unless it is there
abbrev pub with_text : List (List ℕ) → List ℕ → List (List ℕ)
with_text [] text = text ∷ []
with_text (first ∷ later) text =
    let order = slice_cmp nat_cmp text first in
    let rest = with_text later text in
    cond (is_lt order) (text ∷ first ∷ later) (cond (is_eq order) (first ∷ later) (first ∷ rest))

-- the texts of a program, each once, in byte order
abbrev pub texts_of : List FileTree → List (List ℕ)
texts_of files = fold with_text ([] ∷ []) (flat_map (λ (f : FileTree). flat_map (λ d. flat_map texts_in (declaration_exprs d)) f.decls) files)
