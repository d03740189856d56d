-- A program without modifiers is its own unfolded program.
use Rattle.std.proofs.Common.{◌≡◌, refl, sym, ap, ap₂, ◌∙◌, List, [], ◌∷◌, ◌++◌, map, Bool, true, false, cond}
use Rattle.composition.specs.dsl_tree.ExprTree.{ExprTree, Implies, Or, And, Not, Relation, Sum, Product, Minus, Dot, Index, Number, Physical, Chars, Truth, It, Actor, Name, EnumName, Group, Span, Listed, RangeCall, Start, ExprRow, End, Item}
use Rattle.composition.specs.dsl_tree.PhaseTree as Phases
use Rattle.composition.specs.dsl_tree.PhaseTree.{RuleTree, ArgumentTree, ModifierTree, PartTree, PhaseTree, PhaseRow}
use Rattle.composition.specs.dsl_tree.FileTree.{MemberTree, DeclarationTree, FileTree}
use Rattle.composition.specs.Uses.{is_at}
use Rattle.modifier_meaning.specs.Put.{is_front, put_front, put, put_row}
use Rattle.modifier_meaning.specs.Application.{declared_modifiers}
use Rattle.modifier_meaning.specs.Unfolded.{put_rule, put_argument, put_modifier, unfolded_part, unfolded_parts, unfolded_phase, unfolded_row, unfolded_member, unfolded_declaration, unfolded_tree}
use Rattle.modifier_meaning.specs.ModifierLaws.{NothingToUnfold}

-- ---- without arguments nothing is put in

front_none : (head : ExprTree) → put_front (is_front head) head ≡ head
front_none (Implies p a b) = refl
front_none (Or p op a b) = refl
front_none (And p op a b) = refl
front_none (Not p a) = refl
front_none (Relation p sign a b) = refl
front_none (Sum p op a b) = refl
front_none (Product p op a b) = refl
front_none (Minus p a) = refl
front_none (Number d) = refl
front_none (Physical d unit) = refl
front_none (Chars p text) = refl
front_none (Truth p value) = refl
front_none (It p) = refl
front_none (Actor p) = refl
front_none (Name i) = refl
front_none (EnumName of member) = refl
front_none (Group p a) = refl
front_none (Span p a b) = refl
front_none (RangeCall p a b) = refl
front_none (Dot head i) = refl
front_none (Index p head index) = refl
front_none (Listed p items) = refl
front_none (Start (Implies p a b)) = refl
front_none (Start (Or p op a b)) = refl
front_none (Start (And p op a b)) = refl
front_none (Start (Not p a)) = refl
front_none (Start (Relation p sign a b)) = refl
front_none (Start (Sum p op a b)) = refl
front_none (Start (Product p op a b)) = refl
front_none (Start (Minus p a)) = refl
front_none (Start (Number d)) = refl
front_none (Start (Physical d unit)) = refl
front_none (Start (Chars p text)) = refl
front_none (Start (Truth p value)) = refl
front_none (Start (It p)) = refl
front_none (Start (Actor p)) = refl
front_none (Start (Name i)) = refl
front_none (Start (EnumName of member)) = refl
front_none (Start (Group p a)) = refl
front_none (Start (Span p a b)) = refl
front_none (Start (RangeCall p a b)) = refl
front_none (Start (Dot head i)) = refl
front_none (Start (Index p head index)) = refl
front_none (Start (Listed p items)) = refl
front_none (Start (Start a)) = refl

mutual
  pub put_none : (e : ExprTree) → put [] e ≡ e
  put_none (Implies p a b) = ap₂ (λ x y. Implies p x y) (put_none a) (put_none b)
  put_none (Or p op a b) = ap₂ (λ x y. Or p op x y) (put_none a) (put_none b)
  put_none (And p op a b) = ap₂ (λ x y. And p op x y) (put_none a) (put_none b)
  put_none (Not p a) = ap (λ x. Not p x) (put_none a)
  put_none (Relation p sign a b) = ap₂ (λ x y. Relation p sign x y) (put_none a) (put_none b)
  put_none (Sum p op a b) = ap₂ (λ x y. Sum p op x y) (put_none a) (put_none b)
  put_none (Product p op a b) = ap₂ (λ x y. Product p op x y) (put_none a) (put_none b)
  put_none (Minus p a) = ap (λ x. Minus p x) (put_none a)
  put_none (Number d) = refl
  put_none (Physical d unit) = refl
  put_none (Chars p text) = refl
  put_none (Truth p value) = refl
  put_none (It p) = refl
  put_none (Actor p) = refl
  put_none (Name i) = refl
  put_none (EnumName of member) = refl
  put_none (Group p a) = ap (λ x. Group p x) (put_none a)
  put_none (Span p a b) = ap₂ (λ x y. Span p x y) (put_none a) (put_none b)
  put_none (RangeCall p a b) = ap₂ (λ x y. RangeCall p x y) (put_none a) (put_none b)
  put_none (Dot head i) = ap (λ x. Dot x i) (ap (put_front (is_front head)) (put_none head) ∙ front_none head)
  put_none (Index p head index) = ap₂ (λ x y. Index p x y) (ap (put_front (is_front head)) (put_none head) ∙ front_none head) (put_none index)
  put_none (Listed p items) = ap (λ x. Listed p x) (row_none items)
  put_none (Start a) = ap (λ x. Start x) (put_none a)

  row_none : (row : ExprRow) → put_row [] row ≡ row
  row_none End = refl
  row_none (Item a others) = ap₂ (λ x y. Item x y) (put_none a) (row_none others)

-- a map that leaves each item
pub left_alone : {X : Type 0} (f : X → X) → ((x : X) → f x ≡ x) → (xs : List X) → map f xs ≡ xs
left_alone f same [] = refl
left_alone f same (x ∷ xs) = ap₂ (λ a b. a ∷ b) (same x) (left_alone f same xs)

rule_none : (rule : RuleTree) → put_rule [] rule ≡ rule
rule_none (RuleTree.Keep place kind e) = ap (λ x. RuleTree.Keep place kind x) (put_none e)
rule_none (RuleTree.Remove place path) = ap (λ x. RuleTree.Remove place x) (put_none path)

argument_by : (b : Bool) (a : ArgumentTree) → cond b a (record a { value = put [] a.value }) ≡ a
argument_by true a = refl
argument_by false a = ap (λ e. record a { value = e }) (put_none a.value)

modifier_none : (m : ModifierTree) → put_modifier [] m ≡ m
modifier_none m = ap (λ list. record m { arguments = list }) (left_alone (put_argument []) (λ a. argument_by (is_at a) a) m.arguments)

-- ---- parts

part_none : (part : PartTree) → unfolded_part [] part ≡ part ∷ []
part_none (PartTree.RulePart rule) = ap (λ r. PartTree.RulePart r ∷ []) (rule_none rule)
part_none (PartTree.ModifierPart modifier) = ap (λ m. PartTree.ModifierPart m ∷ []) (modifier_none modifier)

parts_none : (parts : List PartTree) → unfolded_parts [] parts ≡ parts
parts_none [] = refl
parts_none (part ∷ parts) = ap₂ (λ a b. a ++ b) (part_none part) (parts_none parts)

-- ---- programs

mutual
  phase_none : (phase : PhaseTree) → unfolded_phase [] phase ≡ phase
  phase_none (Phases.Comp label place kind arguments members) = ap (λ x. Phases.Comp label place kind arguments x) (members_none members)
  phase_none (Phases.Invoke label head names arguments parts) = ap (λ x. Phases.Invoke label head names arguments x) (parts_none parts)
  phase_none (Phases.Wait label place elapsed) = refl

  members_none : (row : PhaseRow) → unfolded_row [] row ≡ row
  members_none Phases.End = refl
  members_none (Phases.Phase phase others) = ap₂ (λ x y. Phases.Phase x y) (phase_none phase) (members_none others)

member_none : (member : MemberTree) → unfolded_member [] member ≡ member
member_none (MemberTree.Field field) = refl
member_none (MemberTree.Rule rule) = refl
member_none (MemberTree.Do place phase) = ap (λ x. MemberTree.Do place x) (phase_none phase)

declaration_none : (d : DeclarationTree) → unfolded_declaration [] d ≡ d
declaration_none (DeclarationTree.TypeDeclaration d) = refl
declaration_none (DeclarationTree.UnitDeclaration d) = refl
declaration_none (DeclarationTree.EnumDeclaration d) = refl
declaration_none (DeclarationTree.CompoundDeclaration d) = ap (λ ms. DeclarationTree.CompoundDeclaration (record d { members = ms })) (left_alone (unfolded_member []) member_none d.members)
declaration_none (DeclarationTree.MemberExtension d) = ap (λ ms. DeclarationTree.MemberExtension (record d { members = ms })) (left_alone (unfolded_member []) member_none d.members)
declaration_none (DeclarationTree.EnumExtension d) = refl

-- of two lists that make an empty one, each is empty
front_empty : {X : Type 0} (xs ys : List X) → xs ++ ys ≡ [] → xs ≡ []
front_empty [] ys e = refl
front_empty (x ∷ xs) ys e = cc

back_empty : {X : Type 0} (xs ys : List X) → xs ++ ys ≡ [] → ys ≡ []
back_empty [] ys e = e
back_empty (x ∷ xs) ys e = cc

file_none : (f : FileTree) → f.modifiers ≡ [] → unfolded_tree [] f ≡ f
file_none f e = λ i. record f { modifiers = sym e i; decls = left_alone (unfolded_declaration []) declaration_none f.decls i }

files_none : (files : List FileTree) → declared_modifiers files ≡ [] → map (unfolded_tree []) files ≡ files
files_none [] e = refl
files_none (f ∷ files) e =
    ap₂ (λ a b. a ∷ b) (file_none f (front_empty f.modifiers (declared_modifiers files) e)) (files_none files (back_empty f.modifiers (declared_modifiers files) e))

pub nothing_to_unfold : NothingToUnfold
nothing_to_unfold files e = ap (λ mods. map (unfolded_tree mods) files) e ∙ files_none files e
