-- Files that are unfolded number the files of the program as it was loaded.
use Rattle.std.proofs.Common.{◌≡◌, refl, sym, ap, ap₂, ◌∙◌, ℕ, List, [], ◌∷◌, map}
use Rattle.composition.specs.dsl_tree.declared.file.Import.{Import}
use Rattle.composition.specs.dsl_tree.FileTree.{FileTree}
use Rattle.composition.specs.name_scope.declared.names.FileName.{FileName}
use Rattle.composition.specs.name_scope.FileNumbers.{AddedFile, with_imports, with_files, numbered_names, is_library}
use Rattle.composition.specs.name_scope.Declaring.{first_place}
use Rattle.modifier_meaning.specs.Application.{declared_modifiers}
use Rattle.modifier_meaning.specs.Unfolded.{unfolded_tree, unfolded_files, trees_of, IsUnfoldedAs}
use Rattle.modifier_meaning.specs.ModifierLaws.{UnfoldedFilesMean}
use Rattle.modifier_meaning.proofs.Lists.{map_of_map}

-- ---- numbers of files, by their names and imports alone

imports_after : List FileName → List (List Import) → List FileName
imports_after names [] = names
imports_after names (is ∷ rest) = imports_after (with_imports names is) rest

numbered_by : List (List ℕ) → List (List Import) → List FileName
numbered_by [] imports = []
numbered_by (main ∷ others) imports = imports_after (FileName.Named main ∷ []) imports

abbrev imports_of : List FileTree → List (List Import)
imports_of files = map (λ (f : FileTree). f.imports) files

with_files_is : (names : List FileName) (files : List AddedFile) → with_files names files ≡ imports_after names (imports_of (trees_of files))
unfolding imports_after
with_files_is names [] = refl
with_files_is names (f ∷ files) = with_files_is (with_imports names f.file.imports) files

numbered_is : (files : List AddedFile) → numbered_names files ≡ numbered_by (map (λ (f : AddedFile). f.name) files) (imports_of (trees_of files))
unfolding numbered_by
numbered_is [] = refl
numbered_is (main ∷ others) = with_files_is (FileName.Named main.name ∷ []) (main ∷ others)

-- imports stay
imports_stay : (files : List FileTree) → imports_of (unfolded_files files) ≡ imports_of files
imports_stay files = map_of_map (λ (f : FileTree). f.imports) (unfolded_tree (declared_modifiers files)) files

numbered_stay : (program unfolded : List AddedFile) → IsUnfoldedAs program unfolded → numbered_names unfolded ≡ numbered_names program
numbered_stay program unfolded u =
    numbered_is unfolded
    ∙ ap₂ (λ names files. numbered_by names (imports_of files)) u.names u.trees
    ∙ ap (λ imports. numbered_by (map (λ (f : AddedFile). f.name) program) imports) (imports_stay (trees_of program))
    ∙ sym (numbered_is program)

pub unfolded_files_mean : UnfoldedFilesMean
unfolded_files_mean program unfolded u =
    ap₂ (λ files names. record { files = files; library = first_place is_library 0 names }) u.trees (numbered_stay program unfolded u)
