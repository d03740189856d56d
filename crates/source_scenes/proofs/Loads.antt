-- What is known of each program that was loaded.
use Rattle.std.proofs.Common.{◌≡◌, ℕ, List, [], ◌∷◌, Some, None}
use Rattle.std.specs.Prelude.{◌≢◌}
use Rattle.loaded_programs.specs.outside_io.declared.shelf.NamedBytes.{NamedBytes}
use Rattle.name_scope.specs.FileNumbers.{AddedFile}
use Rattle.loaded_programs.specs.program_load.Loading.{IsLoaded}

-- it has its main file
pub loaded_some : (files : List NamedBytes) (main : List ℕ) (program : List AddedFile) → IsLoaded files main program → program ≢ []
loaded_some files main [] its empty = let same : Some _ ≡ None = its.whole in cc
loaded_some files main (first ∷ others) its empty = cc
