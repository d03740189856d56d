-- The texts of a program list written are those of the program without modifiers.
use Rattle.std.proofs.Common.{◌≡◌, refl, sym, ap, ap₂, ◌∙◌, List, [], ◌∷◌, ◌++◌, map, Bool, true, false, cond, Option, Some}
use Rattle.std.specs.Prelude.{flat_map, fold, find, bytes_eq}
use Rattle.std.specs.Option.{option_map_or}
use Rattle.composition.specs.dsl_tree.declared.parts.Ident.{Ident}
use Rattle.composition.specs.dsl_tree.ExprTree.{ExprTree, Implies, Or, And, Not, Relation, Sum, Product, Minus, Dot, Index, Number, Physical, Chars, Truth, It, Actor, Name, EnumName, Group, Span, Listed, RangeCall, Start, ExprRow, End, Item}
use Rattle.composition.specs.dsl_tree.PhaseTree as Phases
use Rattle.composition.specs.dsl_tree.PhaseTree.{RuleTree, ArgumentTree, PartTree, PhaseTree, PhaseRow}
use Rattle.composition.specs.dsl_tree.FileTree.{MemberTree, DeclarationTree, ModifierDeclTree, FileTree}
use Rattle.composition.specs.type_heads.Texts.{texts_in, texts_among, argument_exprs, part_exprs, phase_exprs, row_exprs, member_exprs, declaration_exprs, with_text, texts_of}
use Rattle.composition.specs.expr_nodes.Typing.{first, is_path}
use Rattle.composition.specs.ModifierLines.{NamedValue}
use Rattle.composition.specs.Uses.{is_at}
use Rattle.modifier_meaning.specs.Put.{argument_of, is_front, put, put_row}
use Rattle.modifier_meaning.specs.Application.{Reading, RuleIn, ModifierIn, readings, declared_modifiers}
use Rattle.modifier_meaning.specs.Unfolded.{put_value, put_argument, put_reading, unfolded_part, unfolded_parts, unfolded_phase, unfolded_row, unfolded_member, unfolded_declaration, unfolded_tree, unfolded_files}
use Rattle.modifier_meaning.specs.WrittenTexts.{Strings, texts_read, texts_read_among, read_strings, argument_texts, reading_texts, part_texts, phase_texts, row_texts, member_texts, declaration_texts, written_texts}
use Rattle.modifier_meaning.proofs.Lists.{flat_alike, flat_of_map, flat_of_append, flat_of_flat}
use Rattle.modifier_meaning.proofs.Readings.{with_env, readings_follow}
use Rattle.modifier_meaning.proofs.PutLaws.{of_put_front, of_put_name}

-- the strings of an argument where nothing stands for its names
abbrev said : NamedValue → Strings
said v = record { name = v.name; texts = texts_in v.value }

found_here : (b : Bool) (a : NamedValue) (env : Option Strings) (args : Option NamedValue) →
    option_map_or (λ (s : Strings). s.texts) env [] ≡ option_map_or (λ v. (said v).texts) args [] →
    option_map_or (λ (s : Strings). s.texts) (cond b (Some (said a)) env) [] ≡ option_map_or (λ v. (said v).texts) (cond b (Some a) args) []
found_here true a env args h = refl
found_here false a env args h = h

found : (args : List NamedValue) (i : Ident) →
    option_map_or (λ (s : Strings). s.texts) (find (λ (s : Strings). bytes_eq s.name i.text) (map said args)) [] ≡ option_map_or (λ v. (said v).texts) (argument_of args i.text) []
found [] i = refl
found (a ∷ args) i = found_here (bytes_eq a.name i.text) a (find (λ (s : Strings). bytes_eq s.name i.text) (map said args)) (argument_of args i.text) (found args i)

texts_operand : (b : Bool) (e : ExprTree) → texts_in e ≡ texts_in (cond b e (Group (first e) e))
texts_operand true e = refl
texts_operand false e = refl

nothing_after : {X : Type 0} (xs : List X) → xs ++ [] ≡ xs
nothing_after [] = refl
nothing_after (x ∷ xs) = ap (λ ys. x ∷ ys) (nothing_after xs)

module _ (args : List NamedValue) where
  mutual
    texts_put : (e : ExprTree) → texts_read (map said args) e ≡ texts_in (put args e)
    texts_put (Implies p a b) = ap₂ (λ x y. x ++ y) (texts_put a) (texts_put b)
    texts_put (Or p op a b) = ap₂ (λ x y. x ++ y) (texts_put a) (texts_put b)
    texts_put (And p op a b) = ap₂ (λ x y. x ++ y) (texts_put a) (texts_put b)
    texts_put (Relation p sign a b) = ap₂ (λ x y. x ++ y) (texts_put a) (texts_put b)
    texts_put (Sum p op a b) = ap₂ (λ x y. x ++ y) (texts_put a) (texts_put b)
    texts_put (Product p op a b) = ap₂ (λ x y. x ++ y) (texts_put a) (texts_put b)
    texts_put (Span p a b) = ap₂ (λ x y. x ++ y) (texts_put a) (texts_put b)
    texts_put (RangeCall p a b) = ap₂ (λ x y. x ++ y) (texts_put a) (texts_put b)
    texts_put (Not p a) = texts_put a
    texts_put (Minus p a) = texts_put a
    texts_put (Group p a) = texts_put a
    texts_put (Start a) = texts_put a
    texts_put (Number d) = refl
    texts_put (Physical d unit) = refl
    texts_put (Chars p text) = refl
    texts_put (Truth p value) = refl
    texts_put (It p) = refl
    texts_put (Actor p) = refl
    texts_put (EnumName of member) = refl
    texts_put (Dot head i) = texts_put head ∙ sym (of_put_front texts_in (λ e. refl) (is_front head) (put args head))
    texts_put (Index p head index) = ap₂ (λ x y. x ++ y) (texts_put head ∙ sym (of_put_front texts_in (λ e. refl) (is_front head) (put args head))) (texts_put index)
    texts_put (Name i) = found args i ∙ of_put_name texts_in (λ v. (said v).texts) i (λ v. texts_operand (is_path v.value) v.value) (argument_of args i.text)
    texts_put (Listed p items) = among_put items

    among_put : (row : ExprRow) → texts_read_among (map said args) row ≡ texts_among (put_row args row)
    among_put End = refl
    among_put (Item a others) = ap₂ (λ x y. x ++ y) (texts_put a) (among_put others)

  argument_by : (a : ArgumentTree) (b : Bool) →
      cond b (texts_in a.value) (texts_read (map said args) a.value) ≡ texts_in (cond b a (record a { value = put args a.value })).value
  argument_by a true = refl
  argument_by a false = texts_put a.value

  arguments_put : (list : List ArgumentTree) → flat_map (argument_texts (map said args)) list ≡ flat_map texts_in (argument_exprs (map (put_argument args) list))
  arguments_put [] = refl
  arguments_put (a ∷ list) = ap₂ (λ x y. x ++ y) (argument_by a (is_at a)) (arguments_put list)

follows : (args : List NamedValue) (v : NamedValue) → said (put_value args v) ≡ read_strings (map said args) v
follows args v = λ i. record { name = v.name; texts = sym (texts_put args v.value) i }

reading_put : (r : Reading NamedValue) → reading_texts (with_env said r) ≡ flat_map texts_in (part_exprs (put_reading r))
reading_put (RuleIn args (RuleTree.Keep place kind e)) = texts_put args e ∙ sym (nothing_after (texts_in (put args e)))
reading_put (RuleIn args (RuleTree.Remove place path)) = texts_put args path ∙ sym (nothing_after (texts_in (put args path)))
reading_put (ModifierIn args modifier) = arguments_put args modifier.arguments

module _ (mods : List ModifierDeclTree) where
  part_put : (part : PartTree) → part_texts mods part ≡ flat_map (λ p. flat_map texts_in (part_exprs p)) (unfolded_part mods part)
  part_put part =
      ap (λ rs. flat_map reading_texts rs) (sym (readings_follow said put_value read_strings follows mods part))
      ∙ flat_of_map reading_texts (with_env said) (readings put_value mods part)
      ∙ flat_alike (λ r. reading_texts (with_env said r)) (λ r. flat_map texts_in (part_exprs (put_reading r))) reading_put (readings put_value mods part)
      ∙ sym (flat_of_map (λ p. flat_map texts_in (part_exprs p)) put_reading (readings put_value mods part))

  parts_put : (parts : List PartTree) → flat_map (part_texts mods) parts ≡ flat_map texts_in (flat_map part_exprs (unfolded_parts mods parts))
  parts_put parts =
      flat_alike (part_texts mods) (λ part. flat_map (λ p. flat_map texts_in (part_exprs p)) (unfolded_part mods part)) part_put parts
      ∙ sym (flat_of_flat (λ p. flat_map texts_in (part_exprs p)) (unfolded_part mods) parts)
      ∙ sym (flat_of_flat texts_in part_exprs (unfolded_parts mods parts))

  mutual
    phase_put : (phase : PhaseTree) → phase_texts mods phase ≡ flat_map texts_in (phase_exprs (unfolded_phase mods phase))
    phase_put (Phases.Comp label place kind arguments members) =
        ap (λ x. flat_map texts_in (argument_exprs arguments) ++ x) (row_put members) ∙ sym (flat_of_append texts_in (argument_exprs arguments) (row_exprs (unfolded_row mods members)))
    phase_put (Phases.Invoke label head names arguments parts) =
        ap (λ x. flat_map texts_in (argument_exprs arguments) ++ x) (parts_put parts)
        ∙ sym (flat_of_append texts_in (argument_exprs arguments) (flat_map part_exprs (unfolded_parts mods parts)))
    phase_put (Phases.Wait label place elapsed) = sym (nothing_after (texts_in elapsed))

    row_put : (row : PhaseRow) → row_texts mods row ≡ flat_map texts_in (row_exprs (unfolded_row mods row))
    row_put Phases.End = refl
    row_put (Phases.Phase phase others) =
        ap₂ (λ x y. x ++ y) (phase_put phase) (row_put others) ∙ sym (flat_of_append texts_in (phase_exprs (unfolded_phase mods phase)) (row_exprs (unfolded_row mods others)))

  member_put : (member : MemberTree) → member_texts mods member ≡ flat_map texts_in (member_exprs (unfolded_member mods member))
  member_put (MemberTree.Field field) = refl
  member_put (MemberTree.Rule rule) = refl
  member_put (MemberTree.Do place phase) = phase_put phase

  members_put : (members : List MemberTree) → flat_map (member_texts mods) members ≡ flat_map texts_in (flat_map member_exprs (map (unfolded_member mods) members))
  members_put members =
      flat_alike (member_texts mods) (λ m. flat_map texts_in (member_exprs (unfolded_member mods m))) member_put members
      ∙ sym (flat_of_map (λ m. flat_map texts_in (member_exprs m)) (unfolded_member mods) members)
      ∙ sym (flat_of_flat texts_in member_exprs (map (unfolded_member mods) members))

  declaration_put : (d : DeclarationTree) → declaration_texts mods d ≡ flat_map texts_in (declaration_exprs (unfolded_declaration mods d))
  declaration_put (DeclarationTree.CompoundDeclaration d) = members_put d.members
  declaration_put (DeclarationTree.MemberExtension d) = members_put d.members
  declaration_put (DeclarationTree.TypeDeclaration d) = refl
  declaration_put (DeclarationTree.UnitDeclaration d) = refl
  declaration_put (DeclarationTree.EnumDeclaration d) = refl
  declaration_put (DeclarationTree.EnumExtension d) = refl

  files_put : (files : List FileTree) → flat_map (λ (f : FileTree). flat_map (declaration_texts mods) f.decls) files
      ≡ flat_map (λ (f : FileTree). flat_map (λ d. flat_map texts_in (declaration_exprs d)) f.decls) (map (unfolded_tree mods) files)
  files_put files =
      flat_alike (λ (f : FileTree). flat_map (declaration_texts mods) f.decls) (λ (f : FileTree). flat_map (λ d. flat_map texts_in (declaration_exprs d)) (map (unfolded_declaration mods) f.decls))
      (λ f. flat_alike (declaration_texts mods) (λ d. flat_map texts_in (declaration_exprs (unfolded_declaration mods d))) declaration_put f.decls
      ∙ sym (flat_of_map (λ d. flat_map texts_in (declaration_exprs d)) (unfolded_declaration mods) f.decls)) files
      ∙ sym (flat_of_map (λ (f : FileTree). flat_map (λ d. flat_map texts_in (declaration_exprs d)) f.decls) (unfolded_tree mods) files)

pub texts_unfolded : (files : List FileTree) → texts_of (unfolded_files files) ≡ written_texts files
texts_unfolded files = ap (fold with_text ([] ∷ [])) (sym (files_put (declared_modifiers files) files))
