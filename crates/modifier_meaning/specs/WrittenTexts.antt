-- The texts that a string may hold in a program with modifiers: those of strings outside of modifiers and applications, and of strings that are read
-- for an application in a `with:`.
use Rattle.std.specs.Prelude.{ℕ, List, [], ◌∷◌, ◌++◌, flat_map, fold, bytes_eq, find, cond}
use Rattle.std.specs.Option.{option_map_or}
use Rattle.composition.specs.dsl_tree.ExprTree.{ExprTree, Implies, Or, And, Not, Relation, Sum, Product, Minus, Dot, Index, Number, Physical, Chars, Truth, It, Actor, Name, EnumName, Group, Span, Listed, RangeCall, Start, ExprRow, End, Item}
use Rattle.composition.specs.dsl_tree.PhaseTree as Phases
use Rattle.composition.specs.dsl_tree.PhaseTree.{RuleTree, ArgumentTree, PartTree, PhaseTree, PhaseRow}
use Rattle.composition.specs.dsl_tree.FileTree.{MemberTree, DeclarationTree, ModifierDeclTree, FileTree}
use Rattle.composition.specs.type_heads.Texts.{texts_in, argument_exprs, member_exprs, with_text}
use Rattle.composition.specs.ModifierLines.{NamedValue}
use Rattle.composition.specs.Uses.{is_at}
use Rattle.modifier_meaning.specs.Application.{Reading, RuleIn, ModifierIn, readings, declared_modifiers}

-- a parameter, and the texts of the strings in its argument
pub record Strings : Type 0 where
  pub name : List ℕ
  pub texts : List (List ℕ)

abbrev mutual
  -- the texts of the strings in an expression, with those in the arguments that stand in it
  pub texts_read : List Strings → ExprTree → List (List ℕ)
  texts_read env (Implies p a b) = texts_read env a ++ texts_read env b
  texts_read env (Or p op a b) = texts_read env a ++ texts_read env b
  texts_read env (And p op a b) = texts_read env a ++ texts_read env b
  texts_read env (Not p a) = texts_read env a
  texts_read env (Relation p sign a b) = texts_read env a ++ texts_read env b
  texts_read env (Sum p op a b) = texts_read env a ++ texts_read env b
  texts_read env (Product p op a b) = texts_read env a ++ texts_read env b
  texts_read env (Minus p a) = texts_read env a
  texts_read env (Dot head i) = texts_read env head
  texts_read env (Index p head index) = texts_read env head ++ texts_read env index
  texts_read env (Number d) = []
  texts_read env (Physical d unit) = []
  texts_read env (Chars p text) = text ∷ []
  texts_read env (Truth p value) = []
  texts_read env (It p) = []
  texts_read env (Actor p) = []
  texts_read env (Name i) = option_map_or (λ (s : Strings). s.texts) (find (λ (s : Strings). bytes_eq s.name i.text) env) []
  texts_read env (EnumName of member) = []
  texts_read env (Group p a) = texts_read env a
  texts_read env (Span p a b) = texts_read env a ++ texts_read env b
  texts_read env (Listed p items) = texts_read_among env items
  texts_read env (RangeCall p a b) = texts_read env a ++ texts_read env b
  texts_read env (Start a) = texts_read env a

  -- the items of a list
  pub texts_read_among : List Strings → ExprRow → List (List ℕ)
  texts_read_among env End = []
  texts_read_among env (Item a others) = texts_read env a ++ texts_read_among env others

-- the strings of an argument
abbrev pub read_strings : List Strings → NamedValue → Strings
read_strings env v = record { name = v.name; texts = texts_read env v.value }

-- the texts in an argument of a modifier of the table
abbrev pub argument_texts : List Strings → ArgumentTree → List (List ℕ)
argument_texts env a = cond (is_at a) (texts_in a.value) (texts_read env a.value)

-- the texts in a rule or a modifier of the table
abbrev pub reading_texts : Reading Strings → List (List ℕ)
reading_texts (RuleIn env (RuleTree.Keep place kind e)) = texts_read env e
reading_texts (RuleIn env (RuleTree.Remove place path)) = texts_read env path
reading_texts (ModifierIn env modifier) = flat_map (argument_texts env) modifier.arguments

-- the texts in a part of a `with:`
abbrev pub part_texts : List ModifierDeclTree → PartTree → List (List ℕ)
part_texts mods part = flat_map reading_texts (readings read_strings mods part)

abbrev mutual
  -- the texts in a phase and in those in it
  pub phase_texts : List ModifierDeclTree → PhaseTree → List (List ℕ)
  phase_texts mods (Phases.Comp label place kind arguments members) = flat_map texts_in (argument_exprs arguments) ++ row_texts mods members
  phase_texts mods (Phases.Invoke label head names arguments parts) = flat_map texts_in (argument_exprs arguments) ++ flat_map (part_texts mods) parts
  phase_texts mods (Phases.Wait label place elapsed) = texts_in elapsed

  -- the texts in the members of a composition
  pub row_texts : List ModifierDeclTree → PhaseRow → List (List ℕ)
  row_texts mods Phases.End = []
  row_texts mods (Phases.Phase phase others) = phase_texts mods phase ++ row_texts mods others

-- the texts in a member
abbrev pub member_texts : List ModifierDeclTree → MemberTree → List (List ℕ)
member_texts mods (MemberTree.Field field) = flat_map texts_in (member_exprs (MemberTree.Field field))
member_texts mods (MemberTree.Rule rule) = flat_map texts_in (member_exprs (MemberTree.Rule rule))
member_texts mods (MemberTree.Do place phase) = phase_texts mods phase

-- the texts in a declaration
abbrev pub declaration_texts : List ModifierDeclTree → DeclarationTree → List (List ℕ)
declaration_texts mods (DeclarationTree.CompoundDeclaration d) = flat_map (member_texts mods) d.members
declaration_texts mods (DeclarationTree.MemberExtension d) = flat_map (member_texts mods) d.members
declaration_texts mods (DeclarationTree.TypeDeclaration d) = []
declaration_texts mods (DeclarationTree.UnitDeclaration d) = []
declaration_texts mods (DeclarationTree.EnumDeclaration d) = []
declaration_texts mods (DeclarationTree.EnumExtension d) = []

-- the texts of a program, each once, in byte order
abbrev pub written_texts : List FileTree → List (List ℕ)
written_texts files = fold with_text ([] ∷ []) (flat_map (λ (f : FileTree). flat_map (declaration_texts (declared_modifiers files)) f.decls) files)
