-- How a program is loaded: the main file first, then each file that is asked for, in the order of their numbers, up to the
-- first that stops the load.
use Rattle.std.specs.Prelude.{◌≡◌, ◌≤◌, ◌<◌, ℕ, List, [], ◌∷◌, ◌++◌, Option, Some, None, length, slice_get, option_map, unwrap_or}
use Rattle.osc_base.specs.declared.fault.Place.{Place}
use Rattle.osc_base.specs.declared.fault.FaultCode.{FaultCode}
use Rattle.osc_base.specs.declared.fault.Fault.{Fault}
use Rattle.dsl_tree.specs.declared.token.Token.{Token}
use Rattle.dsl_tree.specs.Views.{file_tree}
use Rattle.outside_io.specs.declared.shelf.NamedBytes.{NamedBytes}
use Rattle.outside_io.specs.Files.{file_named}
use Rattle.name_scope.specs.declared.names.FileName.{FileName}
use Rattle.name_scope.specs.FileNumbers.{AddedFile, name_text, wanted_name, wanted_mention, adding_fault}
use Rattle.name_scope.specs.Library.{library_source}
use Rattle.program_load.specs.declared.stop.Refusal.{Refusal}
use Rattle.program_load.specs.SourceReading.{IsRead, IsRefused}

-- the longest source
abbrev pub source_limit : ℕ
source_limit = 1048576

-- the source of a file: the library has its own, and isn't looked for among the files
abbrev pub source_of : List NamedBytes → FileName → Option (List ℕ)
source_of files FileName.Library = Some library_source
source_of files (FileName.Named name) = file_named files name

-- the file whose turn it is after those that were taken: the main file first
abbrev pub next_name : List ℕ → List AddedFile → Option FileName
next_name main [] = Some (FileName.Named main)
next_name main (first ∷ others) = wanted_name (first ∷ others)

-- ---- Files that are taken

-- a file is taken after others: its source is there and not too long, its tokens spell its tree, and no import of it is refused
pub record IsTaken (files : List NamedBytes) (before : List AddedFile) (name : FileName) (added : AddedFile) : Type 0 where
  pub source : List ℕ
  pub there : source_of files name ≡ Some source
  pub within : length source ≤ source_limit
  pub tokens : List Token
  pub read : IsRead (length before) source tokens (file_tree added.file)
  pub called : added.name ≡ name_text name
  pub imports : adding_fault before added ≡ None

-- each of these files is taken in its turn
abbrev pub AreTakenAfter : List NamedBytes → List ℕ → List AddedFile → List AddedFile → Type 0
AreTakenAfter files main before [] = Unit {0}
AreTakenAfter files main before (added ∷ later) =
    ((name : FileName) × (next_name main before ≡ Some name) × IsTaken files before name added) × AreTakenAfter files main (before ++ added ∷ []) later

abbrev pub AreTaken : List NamedBytes → List ℕ → List AddedFile → Type 0
AreTaken files main taken = AreTakenAfter files main [] taken

-- the whole program: no further file is asked for
pub record IsLoaded (files : List NamedBytes) (main : List ℕ) (program : List AddedFile) : Type 0 where
  pub taken : AreTaken files main program
  pub whole : next_name main program ≡ None

-- ---- Stops

-- the name of the file of that number
abbrev pub name_at : List AddedFile → ℕ → List ℕ
name_at taken number = unwrap_or (option_map (λ (added : AddedFile). added.name) (slice_get taken number)) []

-- the load stops at the file of this name, after those that were taken
pub data StopsAt (files : List NamedBytes) (taken : List AddedFile) (name : FileName) (stop : Refusal) : Type 0 where
  -- the main file isn't there
  no_main : taken ≡ [] → source_of files name ≡ None → stop ≡ Refusal.Missing → StopsAt files taken name stop
  -- another file isn't there: `MissingImport` at the import that mentions it first
  no_file : (place : Place) → source_of files name ≡ None → wanted_mention taken ≡ Some place →
      stop ≡ Refusal.Faulty (name_at taken place.file) (record { place = place; code = FaultCode.MissingImport }) → StopsAt files taken name stop
  too_long : (source : List ℕ) → source_of files name ≡ Some source → source_limit < length source → stop ≡ Refusal.Long (name_text name) →
      StopsAt files taken name stop
  -- the first fault of its bytes, else of its tokens
  unread : (source : List ℕ) (fault : Fault) → source_of files name ≡ Some source → length source ≤ source_limit →
      IsRefused (length taken) source fault → stop ≡ Refusal.Faulty (name_text name) fault → StopsAt files taken name stop
  -- the first import that asks for no file, or for one too many
  bad_import : (source : List ℕ) (tokens : List Token) (added : AddedFile) (fault : Fault) → source_of files name ≡ Some source →
      length source ≤ source_limit → IsRead (length taken) source tokens (file_tree added.file) → added.name ≡ name_text name →
      adding_fault taken added ≡ Some fault → stop ≡ Refusal.Faulty (name_text name) fault → StopsAt files taken name stop

-- no program is loaded, for this cause
pub record IsStopped (files : List NamedBytes) (main : List ℕ) (stop : Refusal) : Type 0 where
  pub taken : List AddedFile
  pub are_taken : AreTaken files main taken
  pub name : FileName
  pub next : next_name main taken ≡ Some name
  pub stops : StopsAt files taken name stop

-- it is the turn of the file of this name, which is looked for on the shelf
pub record IsTurn (files : List NamedBytes) (main name : List ℕ) : Type 0 where
  pub taken : List AddedFile
  pub are_taken : AreTaken files main taken
  pub next : next_name main taken ≡ Some (FileName.Named name)

-- ---- Laws

-- files allow one program, or one cause for which none is loaded, and not both
abbrev pub OneLoad : Type 0
OneLoad = (files : List NamedBytes) (main : List ℕ) →
    ((program other : List AddedFile) → IsLoaded files main program → IsLoaded files main other → program ≡ other)
    × ((stop other : Refusal) → IsStopped files main stop → IsStopped files main other → stop ≡ other)
    × ((program : List AddedFile) (stop : Refusal) → IsLoaded files main program → IsStopped files main stop → ⊥)

-- and they allow one of both: it can't be that they allow none
abbrev pub SomeLoad : Type 0
SomeLoad = (files : List NamedBytes) (main : List ℕ) →
    ((program : List AddedFile) → IsLoaded files main program → ⊥) → ((stop : Refusal) → IsStopped files main stop → ⊥) → ⊥
