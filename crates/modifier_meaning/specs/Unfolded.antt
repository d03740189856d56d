-- The program without modifiers: each application in a `with:` is replaced by what it comes to, with the arguments put in.
use Rattle.std.specs.Prelude.{◌≡◌, cond, List, [], map, flat_map}
use Rattle.composition.specs.dsl_tree.PhaseTree.{RuleTree, ArgumentTree, ModifierTree, PartTree, PhaseTree, Comp, Invoke, Wait, PhaseRow, End, Phase}
use Rattle.composition.specs.dsl_tree.FileTree.{MemberTree, DeclarationTree, ModifierDeclTree, FileTree}
use Rattle.composition.specs.dsl_tree.Views.{file_tree}
use Rattle.composition.specs.name_scope.FileNumbers.{AddedFile}
use Rattle.composition.specs.type_heads.Types.{Program}
use Rattle.composition.specs.ModifierLines.{NamedValue}
use Rattle.composition.specs.Uses.{is_at}
use Rattle.modifier_meaning.specs.Put.{put}
use Rattle.modifier_meaning.specs.Application.{Reading, RuleIn, ModifierIn, readings, declared_modifiers}

-- ---- parts

-- an argument, where parameters stand for arguments
abbrev pub put_value : List NamedValue → NamedValue → NamedValue
put_value args v = record v { value = put args v.value }

-- a rule with the arguments put in
abbrev pub put_rule : List NamedValue → RuleTree → RuleTree
put_rule args (RuleTree.Keep place kind e) = RuleTree.Keep place kind (put args e)
put_rule args (RuleTree.Remove place path) = RuleTree.Remove place (put args path)

-- an argument of a modifier of the table; the word after `at:` stays
abbrev pub put_argument : List NamedValue → ArgumentTree → ArgumentTree
put_argument args a = cond (is_at a) a (record a { value = put args a.value })

-- a modifier of the table with the arguments put in
abbrev pub put_modifier : List NamedValue → ModifierTree → ModifierTree
put_modifier args m = record m { arguments = map (put_argument args) m.arguments }

-- what stands in the place of an application
abbrev pub put_reading : Reading NamedValue → PartTree
put_reading (RuleIn args rule) = PartTree.RulePart (put_rule args rule)
put_reading (ModifierIn args modifier) = PartTree.ModifierPart (put_modifier args modifier)

-- what stands in the place of a part of a `with:`
abbrev pub unfolded_part : List ModifierDeclTree → PartTree → List PartTree
unfolded_part mods part = map put_reading (readings put_value mods part)

-- what stands in the place of the parts of a `with:`
abbrev pub unfolded_parts : List ModifierDeclTree → List PartTree → List PartTree
unfolded_parts mods parts = flat_map (unfolded_part mods) parts

-- ---- programs

abbrev mutual
  -- a phase and all in it, unfolded
  pub unfolded_phase : List ModifierDeclTree → PhaseTree → PhaseTree
  unfolded_phase mods (Comp label place kind arguments members) = Comp label place kind arguments (unfolded_row mods members)
  unfolded_phase mods (Invoke label head names arguments parts) = Invoke label head names arguments (unfolded_parts mods parts)
  unfolded_phase mods (Wait label place elapsed) = Wait label place elapsed

  -- the members of a composition
  pub unfolded_row : List ModifierDeclTree → PhaseRow → PhaseRow
  unfolded_row mods End = End
  unfolded_row mods (Phase phase others) = Phase (unfolded_phase mods phase) (unfolded_row mods others)

-- a member; only a `do` has applications
abbrev pub unfolded_member : List ModifierDeclTree → MemberTree → MemberTree
unfolded_member mods (MemberTree.Field field) = MemberTree.Field field
unfolded_member mods (MemberTree.Rule rule) = MemberTree.Rule rule
unfolded_member mods (MemberTree.Do place phase) = MemberTree.Do place (unfolded_phase mods phase)

-- a declaration with all its members unfolded
abbrev pub unfolded_declaration : List ModifierDeclTree → DeclarationTree → DeclarationTree
unfolded_declaration mods (DeclarationTree.TypeDeclaration d) = DeclarationTree.TypeDeclaration d
unfolded_declaration mods (DeclarationTree.UnitDeclaration d) = DeclarationTree.UnitDeclaration d
unfolded_declaration mods (DeclarationTree.EnumDeclaration d) = DeclarationTree.EnumDeclaration d
unfolded_declaration mods (DeclarationTree.CompoundDeclaration d) = DeclarationTree.CompoundDeclaration (record d { members = map (unfolded_member mods) d.members })
unfolded_declaration mods (DeclarationTree.MemberExtension d) = DeclarationTree.MemberExtension (record d { members = map (unfolded_member mods) d.members })
unfolded_declaration mods (DeclarationTree.EnumExtension d) = DeclarationTree.EnumExtension d

-- a file without modifiers
abbrev pub unfolded_tree : List ModifierDeclTree → FileTree → FileTree
unfolded_tree mods f = record f { modifiers = []; decls = map (unfolded_declaration mods) f.decls }

-- the files of a program without modifiers
abbrev pub unfolded_files : List FileTree → List FileTree
unfolded_files files = map (unfolded_tree (declared_modifiers files)) files

-- a program without modifiers
abbrev pub unfolded_program : Program → Program
unfolded_program p = record p { files = unfolded_files p.files }

-- the trees of the files of a program
abbrev pub trees_of : List AddedFile → List FileTree
trees_of program = map (λ (f : AddedFile). file_tree f.file) program

-- a program as loaded and the same without modifiers: files of the same names, unfolded
pub record IsUnfoldedAs (program unfolded : List AddedFile) : Type 0 where
  pub names : map (λ (f : AddedFile). f.name) unfolded ≡ map (λ (f : AddedFile). f.name) program
  pub trees : trees_of unfolded ≡ unfolded_files (trees_of program)
