-- What the program keeps of a file.
use Rattle.std.specs.Prelude.{◌≡◌, ℕ, ◌<◌, ◌≤◌, ◌^◌, List, Option, Some, length, slice_get, option_map}
use Rattle.dsl_tree.specs.declared.file.File.{File}
use Rattle.dsl_tree.specs.Language.{FollowsGrammar}
use Rattle.dsl_tree.specs.Views.{file_tree}
use Rattle.name_scope.specs.declared.ids.NameKind.{NameKind}
use Rattle.name_scope.specs.declared.names.FileName.{FileName}
use Rattle.name_scope.specs.declared.table.NameTable.{NameTable}
use Rattle.name_scope.specs.declared.table.DeclTable.{DeclTable}
use Rattle.name_scope.specs.FileNumbers.{AddedFile, name_text, numbered_names}
use Rattle.name_scope.specs.Tables.{place_in, place_of}
use Rattle.name_scope.specs.Declaring.{declares, first_place, is_called}

-- the tables have the place of the first declaration of each name, and of the first modifier
pub record IsSource (table : DeclTable) (modifiers : NameTable) (file : File) : Type 0 where
  pub few : length file.decls < 2 ^ 32
  pub few_modifiers : length file.modifiers < 2 ^ 32
  pub first : (kind : NameKind) (owner : Option (List ℕ)) (name : List ℕ) → place_of table kind owner name ≡ first_place (declares kind owner name) 0 file.decls
  pub first_modifier : (name : List ℕ) → place_in modifiers name ≡ first_place (is_called name) 0 file.modifiers
  pub follows : FollowsGrammar (file_tree file)

-- the names of a program are those that its files number, and each added file has one of them
pub record IsProgram (files : List AddedFile) (names : List FileName) : Type 0 where
  pub numbered : names ≡ numbered_names files
  pub few : length names ≤ 64
  pub enough : length files ≤ length names
  pub called : (number : ℕ) (f : AddedFile) → slice_get files number ≡ Some f → option_map name_text (slice_get names number) ≡ Some f.name
