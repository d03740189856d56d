-- Which trees the forests of each part are written from.
use Rattle.std.proofs.Common.{◌≡◌, ◌⊎◌, ℕ, List, [], ◌∷◌, Bool, true, false, Option, Some, None, inl, inr, map, not, ◌&&◌}
use Rattle.osc_base.specs.declared.fault.Place.{Place}
use Rattle.dsl_tree.specs.declared.parts.Ident.{Ident}
use Rattle.dsl_tree.specs.declared.parts.Digits.{Digits}
use Rattle.dsl_tree.specs.declared.parts.Signed.{Signed}
use Rattle.dsl_tree.specs.declared.parts.QName.{QName}
use Rattle.dsl_tree.specs.declared.expr.RelationSign.{RelationSign}
use Rattle.dsl_tree.specs.declared.rules.KeepKind.{KeepKind}
use Rattle.dsl_tree.specs.declared.phases.CompKind.{CompKind}
use Rattle.dsl_tree.specs.declared.phases.InvokeHead.{InvokeHead}
use Rattle.dsl_tree.specs.declared.units.BasePart.{BasePart}
use Rattle.dsl_tree.specs.declared.enums.EnumItem.{EnumItem}
use Rattle.dsl_tree.specs.declared.compounds.ConditionValue.{ConditionValue}
use Rattle.dsl_tree.specs.declared.compounds.HeirCondition.{HeirCondition}
use Rattle.dsl_tree.specs.declared.compounds.Heir.{Heir}
use Rattle.dsl_tree.specs.declared.file.Import.{Import}
use Rattle.dsl_tree.specs.declared.token.MarkKind.{MarkKind}
use Rattle.dsl_tree.specs.declared.token.TokenKind.{TokenKind}
use Rattle.dsl_tree.specs.Codes.{code, has, factor_text}
use Rattle.dsl_tree.specs.ExprTree.{ExprTree, ExprRow}
use Rattle.dsl_tree.specs.PhaseTree.{RuleTree, ArgumentTree, PartTree, PhaseTree, PhaseRow}
use Rattle.dsl_tree.specs.FileTree.{MemberTree, DeclarationTree, ModifierPartTree, ModifierDeclTree, FileTree}
use Rattle.dsl_tree.specs.Views.{FurtherTree, SuffixTree}
use Rattle.dsl_tree.specs.Grammar.{Part, Symbol, Seen, Bare, Of, rules}
use Rattle.dsl_tree.specs.Forest.{Forest, nil, seen, bare, sub}
use Rattle.dsl_tree.specs.Written.{mark, mark_at, ident, sign_kind, at, written, listed_tail, expr, path}
use Rattle.dsl_tree.specs.WrittenPhases.{newline, by_option, keep_kind, rule, rules_tail, named_tail, arguments_tail, arguments, dotted_names, invocation_arguments, invocation_part, parts_tail, invocation_end, invocation_rest, labelled_invocation, composition_arguments, composition, wait, block_phases, phase, phases_tail}
use Rattle.dsl_tree.specs.WrittenFile.{import_rest, import_of, imports, known_name, signed, base, bases_tail, offset_end, factor_tail, unit_end, unit_tail, item_number, enum_item, items_tail, enum_items, second_name, qualified_name, condition_value, heir_condition, optional_heir, names_tail, field_type, initial, field_end, member, members_tail, block, body, declaration, declarations, modifier_part, modifier_parts_tail, modifier_declaration, modifiers, file}
use Rattle.dsl_tree.proofs.Tests.{any_rule, is_whole}
use Rattle.dsl_tree.proofs.WrittenRows.{further_tail, suffix_tail}
use Rattle.dsl_tree.proofs.Classes.{Class, Names, Numbers, Physicals, Texts, LeftOuts, Plain, AnyOf, kind_any, classes, seen_class, bare_class}

-- a part of a modifier after its name
pub data NamedTree : Type 0 where
  OfType : (of : Ident) → NamedTree
  With : (arguments : List ArgumentTree) → NamedTree

-- a list with one item at least
abbrev pub OneOrMore : Type 0 → Type 0
OneOrMore A = A × List A

-- the bases, factor and offset of a unit; and what stands after a comma in one
abbrev pub UnitParts : Type 0
UnitParts = List BasePart × Option Signed × Option Signed

pub data MoreUnit : Type 0 where
  Another : (base : BasePart) (rest : UnitParts) → MoreUnit
  Factor : (factor : Signed) (offset : Option Signed) → MoreUnit
  Offset : (offset : Signed) → MoreUnit

-- what `extend` adds
pub data Added : Type 0 where
  MoreItems : (items : OneOrMore EnumItem) → Added
  MoreMembers : (members : OneOrMore MemberTree) → Added

-- an invocation after its head, a composition, and a wait
abbrev pub Invocation : Type 0
Invocation = List Ident × List ArgumentTree × List PartTree

abbrev pub Composed : Type 0
Composed = Place × CompKind × List ArgumentTree × PhaseRow

abbrev pub Waited : Type 0
Waited = Place × ExprTree

-- a phase after its label, and after a name
pub data Core : Type 0 where
  Invoked : (head : InvokeHead) (rest : Invocation) → Core
  InOrder : (composed : Composed) → Core
  Pause : (waited : Waited) → Core

pub data AfterName : Type 0 where
  Labelled : (core : Core) → AfterName
  Unlabelled : (rest : Invocation) → AfterName

-- what stands after the first expression in square brackets
pub data Bracket : Type 0 where
  High : (high : ExprTree) → Bracket
  Items : (items : ExprRow) → Bracket

-- Parts that aren't written by a definition of their own

abbrev pub named_part : NamedTree → Forest
named_part (OfType of) = mark MarkKind.Colon (ident of (newline nil))
named_part (With arguments) = mark MarkKind.OpenRound (sub (invocation_arguments arguments) (newline nil))

abbrev pub unit_parts : UnitParts → Forest
unit_parts u = unit_tail u.0 (unit_end u.1 u.2)

abbrev pub unit_more : MoreUnit → Forest
unit_more (Another b u) = sub (base b) (sub (unit_parts u) nil)
unit_more (Factor factor offset) = known_name factor_text (mark MarkKind.Colon (sub (signed factor) (sub (factor_tail offset) nil)))
unit_more (Offset offset) = offset_end offset

abbrev pub dash : Option Place → Forest
dash None = nil
dash (Some place) = mark_at place MarkKind.Dash nil

abbrev pub added : Added → Forest
added (MoreItems items) = sub (enum_items (items.0 ∷ items.1)) (newline nil)
added (MoreMembers members) = sub (block (members.0 ∷ members.1)) nil

abbrev pub suffix : SuffixTree → Forest
suffix (SuffixTree.Named name) = mark MarkKind.Dot (ident name nil)
suffix (SuffixTree.At place index) = mark_at place MarkKind.OpenSquare (sub (expr index) (mark MarkKind.CloseSquare nil))

abbrev pub invoked : Invocation → Forest
invoked i = invocation_rest i.0 i.1 i.2

abbrev pub first_part : Forest → Forest
first_part (sub part f) = part
first_part f = f

abbrev pub composed : Composed → Forest
composed c = first_part (composition c.0 c.1 c.2 (block_phases c.3))

abbrev pub waited : Waited → Forest
waited w = first_part (wait w.0 w.1)

abbrev pub core : Core → Forest
core (Invoked head rest) = labelled_invocation head (invoked rest)
core (InOrder c) = sub (composed c) nil
core (Pause w) = sub (waited w) nil

abbrev pub after_name : AfterName → Forest
after_name (Labelled c) = mark MarkKind.Colon (sub (core c) nil)
after_name (Unlabelled rest) = sub (invoked rest) nil

abbrev pub bracket : Bracket → Forest
bracket (High high) = mark MarkKind.TwoDots (sub (expr high) (mark MarkKind.CloseSquare nil))
bracket (Items items) = sub (listed_tail items) (mark MarkKind.CloseSquare nil)

-- an expression of a level or a higher one
abbrev pub at_level : ℕ → ExprTree → Forest
at_level l t = at l t (written t)

-- the type of a part's trees, and what they are written as
abbrev pub spelling : Part → (A : Type 0) × (A → Forest)
spelling Part.File = (FileTree, file)
spelling Part.Imports = (List Import, imports)
spelling Part.Import = (Import, import_of)
spelling Part.ImportRest = (Import, import_rest)
spelling Part.DottedNames = (List Ident, dotted_names)
spelling Part.Modifiers = (List ModifierDeclTree, modifiers)
spelling Part.ModifierDeclaration = (ModifierDeclTree, modifier_declaration)
spelling Part.ModifierPart = (ModifierPartTree, modifier_part)
spelling Part.NamedPart = (NamedTree, named_part)
spelling Part.ModifierPartsTail = (List ModifierPartTree, modifier_parts_tail)
spelling Part.Declarations = (List DeclarationTree, declarations)
spelling Part.Declaration = (DeclarationTree, declaration)
spelling Part.BasesTail = (List BasePart, bases_tail)
spelling Part.UnitTail = (UnitParts, unit_parts)
spelling Part.UnitMore = (MoreUnit, unit_more)
spelling Part.FactorTail = (Option Signed, factor_tail)
spelling Part.Base = (BasePart, base)
spelling Part.OptionalDash = (Option Place, dash)
spelling Part.Signed = (Signed, signed)
spelling Part.EnumItems = (OneOrMore EnumItem, λ t. enum_items (t.0 ∷ t.1))
spelling Part.EnumItem = (EnumItem, enum_item)
spelling Part.ItemNumber = (Option Digits, item_number)
spelling Part.ItemsTail = (List EnumItem, items_tail)
spelling Part.QualifiedName = (QName, qualified_name)
spelling Part.SecondName = (Option Ident, second_name)
spelling Part.OptionalHeir = (Option Heir, optional_heir)
spelling Part.HeirCondition = (Option HeirCondition, heir_condition)
spelling Part.ConditionValue = (ConditionValue, condition_value)
spelling Part.EnumMember = (Option Ident, λ t. by_option t nil (λ name. mark MarkKind.Bang (ident name nil)))
spelling Part.Body = (List MemberTree, body)
spelling Part.Block = (OneOrMore MemberTree, λ t. block (t.0 ∷ t.1))
spelling Part.ExtensionRest = (Added, added)
spelling Part.MembersTail = (List MemberTree, members_tail)
spelling Part.Member = (MemberTree, member)
spelling Part.NamesTail = (List Ident, names_tail)
spelling Part.FieldType = (Option Place × Ident, λ t. field_type t.0 t.1)
spelling Part.Initial = (Option ExprTree, initial)
spelling Part.FieldEnd = (List RuleTree, field_end)
spelling Part.RulesTail = (List RuleTree, rules_tail)
spelling Part.Rule = (RuleTree, rule)
spelling Part.KeepKind = (KeepKind, keep_kind)
spelling Part.Path = (ExprTree, path)
spelling Part.SuffixesTail = (List SuffixTree, suffix_tail)
spelling Part.Suffix = (SuffixTree, suffix)
spelling Part.Phase = (PhaseTree, phase)
spelling Part.PhaseAfterName = (AfterName, after_name)
spelling Part.LabelledPhase = (Core, core)
spelling Part.Composition = (Composed, composed)
spelling Part.CompositionArguments = (List ArgumentTree, composition_arguments)
spelling Part.PhasesTail = (PhaseRow, phases_tail)
spelling Part.Wait = (Waited, waited)
spelling Part.InvocationRest = (Invocation, invoked)
spelling Part.InvocationArguments = (List ArgumentTree, invocation_arguments)
spelling Part.InvocationEnd = (List PartTree, invocation_end)
spelling Part.InvocationPart = (PartTree, invocation_part)
spelling Part.PartsTail = (List PartTree, parts_tail)
spelling Part.Arguments = (OneOrMore ArgumentTree, λ t. arguments (t.0 ∷ t.1))
spelling Part.ArgumentsTail = (List ArgumentTree, λ t. arguments_tail t (arguments t))
spelling Part.NamedTail = (List ArgumentTree, named_tail)
spelling Part.Expr = (ExprTree, expr)
spelling Part.ImpliesTail = (Option (Place × ExprTree), λ t. by_option t nil (λ right. mark_at right.0 MarkKind.Arrow (sub (at_level 1 right.1) nil)))
spelling Part.Or = (ExprTree, at_level 1)
spelling Part.OrTail = (List FurtherTree, further_tail 2)
spelling Part.And = (ExprTree, at_level 2)
spelling Part.AndTail = (List FurtherTree, further_tail 3)
spelling Part.Not = (ExprTree, at_level 3)
spelling Part.Relation = (ExprTree, at_level 4)
spelling Part.RelationTail = (Option (Place × RelationSign × ExprTree), λ t. by_option t nil (λ right. seen right.0 (sign_kind right.1) (sub (at_level 5 right.2) nil)))
spelling Part.Sum = (ExprTree, at_level 5)
spelling Part.SumTail = (List FurtherTree, further_tail 6)
spelling Part.Product = (ExprTree, at_level 6)
spelling Part.ProductTail = (List FurtherTree, further_tail 7)
spelling Part.Minus = (ExprTree, at_level 7)
spelling Part.Postfix = (ExprTree, at_level 8)
spelling Part.Primary = (ExprTree, at_level 9)
spelling Part.BracketRest = (Bracket, bracket)
spelling Part.ListedTail = (ExprRow, listed_tail)

abbrev pub Tree : Part → Type 0
Tree p = (spelling p).0

abbrev pub forest_of : (p : Part) → Tree p → Forest
forest_of p = (spelling p).1

-- some tree of the part is written so, if `wrong` stands nowhere
abbrev pub Made : Part → Forest → Type 0
Made p f = (t : Tree p) × (is_whole f ≡ true → forest_of p t ≡ f)

-- Rows of what stands at the symbols of a rule: trees at parts, and at tokens what they hold

abbrev pub Held : Symbol → Type 0
Held (Seen codes) = Place × AnyOf (classes seen_class codes)
Held (Bare codes) = AnyOf (classes bare_class codes)
Held (Of part) = Tree part

abbrev pub Row : List Symbol → Type 0
Row [] = Unit {0}
Row (s ∷ ss) = Held s × Row ss

abbrev pub row_forest : (ss : List Symbol) → Row ss → Forest
row_forest [] row = nil
row_forest (Seen codes ∷ ss) row = seen row.0.0 (kind_any (classes seen_class codes) row.0.1) (row_forest ss row.1)
row_forest (Bare codes ∷ ss) row = bare (kind_any (classes bare_class codes) row.0) (row_forest ss row.1)
row_forest (Of part ∷ ss) row = sub (forest_of part row.0) (row_forest ss row.1)

-- a row of one of some rules
abbrev pub Choice : List (List Symbol) → Type 0
Choice [] = ⊥
Choice (r ∷ []) = Row r
Choice (r ∷ (s ∷ rs)) = Row r ⊎ Choice (s ∷ rs)

abbrev pub choice_forest : (rs : List (List Symbol)) → Choice rs → Forest
choice_forest [] choice = absurd choice
choice_forest (r ∷ []) choice = row_forest r choice
choice_forest (r ∷ (s ∷ rs)) (inl row) = row_forest r row
choice_forest (r ∷ (s ∷ rs)) (inr choice) = choice_forest (s ∷ rs) choice

-- Kinds of tokens that a forest tells apart: names are one, and so are numbers.

abbrev pub tag : TokenKind → ℕ
tag (TokenKind.Name text) = 8
tag (TokenKind.Number digits places) = 9
tag kind = code kind

abbrev pub class_tag : Class → ℕ
class_tag Names = 8
class_tag Numbers = 9
class_tag Physicals = 12
class_tag Texts = 13
class_tag LeftOuts = 4
class_tag (Plain kind) = tag kind

abbrev pub tags : List ℕ → List ℕ
tags codes = map class_tag (classes seen_class codes)

-- whether a forest may follow a rule, by its first token
abbrev pub may_follow : Forest → List Symbol → Bool
may_follow nil [] = true
may_follow (seen place kind f) (Seen codes ∷ ss) = has (tags codes) (tag kind)
may_follow (bare kind f) (Bare codes ∷ ss) = has codes (code kind)
may_follow (sub part f) (Of p ∷ ss) = any_rule (rules p) (may_follow part)
may_follow _ _ = false

-- whether it may follow no other rule than that of the row
abbrev pub is_only : (rs : List (List Symbol)) → Choice rs → Forest → Bool
is_only [] choice f = absurd choice
is_only (r ∷ []) choice f = true
is_only (r ∷ (s ∷ rs)) (inl row) f = not (any_rule (s ∷ rs) (may_follow f))
is_only (r ∷ (s ∷ rs)) (inr choice) f = not (may_follow f r) && is_only (s ∷ rs) choice f
