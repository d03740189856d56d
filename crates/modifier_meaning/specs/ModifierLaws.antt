-- Laws of user modifiers.
use Rattle.std.specs.Prelude.{◌≡◌, ◌↔◌, ℕ, List, [], Option, map, flat_map}
use Rattle.composition.specs.dsl_tree.ExprTree.{ExprTree}
use Rattle.composition.specs.dsl_tree.PhaseTree.{PartTree}
use Rattle.composition.specs.dsl_tree.FileTree.{ModifierDeclTree, FileTree}
use Rattle.composition.specs.name_scope.FileNumbers.{AddedFile}
use Rattle.composition.specs.type_heads.Table.{Table}
use Rattle.composition.specs.type_heads.Types.{Program, Types}
use Rattle.composition.specs.type_heads.DeclaredTypes.{program_of, types_of}
use Rattle.composition.specs.expr_nodes.Scope.{Scope}
use Rattle.composition.specs.expr_nodes.Typing.{typed, first, is_path}
use Rattle.composition.specs.ModifierLines.{NamedValue}
use Rattle.composition.specs.Tokens.{tokens}
use Rattle.composition.specs.declared.run.Run.{Run}
use Rattle.composition.specs.declared.setting.Setting.{Setting}
use Rattle.composition.specs.Givens.{Here}
use Rattle.composition.specs.Expansion.{Calling, part_rule, part_modifier, expansion}
use Rattle.composition.specs.Expanded.{scene}
use Rattle.composition.specs.SceneFaults.{named_scenario}
use Rattle.composition.specs.Claims.{IsInstance}
use Rattle.modifier_meaning.specs.Put.{put}
use Rattle.modifier_meaning.specs.Environment.{Argument, as_argument, typed_in, first_in, is_path_in, tokens_in}
use Rattle.modifier_meaning.specs.Unfolded.{unfolded_parts, unfolded_files, unfolded_program, IsUnfoldedAs}
use Rattle.modifier_meaning.specs.Application.{declared_modifiers}
use Rattle.modifier_meaning.specs.WrittenScene.{rules_of_part, modifiers_of_part, written_expansion, written_types, written_scene}
use Rattle.modifier_meaning.specs.UnfoldedTypes.{unfolded_types}

-- what an argument of an application comes to, with all names in it read where it stands
abbrev pub argument_read : Table → Scope → NamedValue → Argument
argument_read table sc v = as_argument v.name (is_path v.value) (first v.value) (typed table sc v.value) (tokens v.value)

-- An expression, read with parameters that stand for arguments, has the typed form of the expression in which the arguments are put in.
abbrev pub TypedInIsPut : Type 0
TypedInIsPut =
    (table : Table) (sc : Scope) (args : List NamedValue) (e : ExprTree) →
    typed_in table sc (map (argument_read table sc) args) e ≡ typed table sc (put args e)

-- It begins at the same place, is a path if that is one, and has as many tokens.
abbrev pub FormsInArePut : Type 0
FormsInArePut =
    (table : Table) (sc : Scope) (args : List NamedValue) (e : ExprTree) →
    (first_in (map (argument_read table sc) args) e ≡ first (put args e))
    × (is_path_in (map (argument_read table sc) args) e ≡ is_path (put args e))
    × (tokens_in (map (argument_read table sc) args) e ≡ tokens (put args e))

-- The parts of a `with:`, read where they stand, give the constraints and the modifiers that the unfolded parts give.
abbrev pub PartsAgree : Type 0
PartsAgree =
    (mods : List ModifierDeclTree) (ts : Types) (call : Calling) (here : Here) (parts : List PartTree) →
    (flat_map (rules_of_part mods ts call here) parts ≡ flat_map (part_rule ts call here) (unfolded_parts mods parts))
    × (flat_map (modifiers_of_part mods ts call here) parts ≡ flat_map (part_modifier ts call here) (unfolded_parts mods parts))

-- A scenario as written expands to what it expands to where each `do` is unfolded.
abbrev pub ExpansionsAgree : Type 0
ExpansionsAgree = (mods : List ModifierDeclTree) (ts : Types) (t : ℕ) → written_expansion mods ts t ≡ expansion (unfolded_types mods ts) t

-- The scene of a scenario of a program as written is that of the program without modifiers.
abbrev pub UnfoldingKeepsScenes : Type 0
UnfoldingKeepsScenes = (p : Program) (t : ℕ) (setting : Setting) → written_scene p t setting ≡ scene (types_of (unfolded_program p)) t setting

-- A name names the same scenario in a program as written and in the program without modifiers.
abbrev pub UnfoldingKeepsScenarios : Type 0
UnfoldingKeepsScenarios =
    (p : Program) (owner : Option (List ℕ)) (name : List ℕ) →
    named_scenario (written_types p) owner name ≡ named_scenario (types_of (unfolded_program p)) owner name

-- A run is an instance of a program as written exactly where it is one of the program without modifiers.
abbrev pub UnfoldingKeepsInstances : Type 0
UnfoldingKeepsInstances =
    (p : Program) (t : ℕ) (setting : Setting) (run : Run) →
    IsInstance (written_scene p t setting) run ↔ IsInstance (scene (types_of (unfolded_program p)) t setting) run

-- Files without modifiers stay as they are.
abbrev pub NothingToUnfold : Type 0
NothingToUnfold = (files : List FileTree) → declared_modifiers files ≡ [] → unfolded_files files ≡ files

-- Files that are unfolded are the program without modifiers: the library's number stays.
abbrev pub UnfoldedFilesMean : Type 0
UnfoldedFilesMean = (program unfolded : List AddedFile) → IsUnfoldedAs program unfolded → program_of unfolded ≡ unfolded_program (program_of program)
