-- The load of the program that is made: its one file is named `made`.
use Rattle.std.specs.Prelude.{ℕ, List, [], ◌∷◌, codes}
use Rattle.outside_io.specs.declared.shelf.NamedBytes.{NamedBytes}
use Rattle.name_scope.specs.FileNumbers.{AddedFile}
use Rattle.program_load.specs.Loading.{IsLoaded, IsStopped}
use Rattle.program_load.specs.declared.stop.Refusal.{Refusal}
use Rattle.made_programs.specs.MadeText.{made_text}
use Rattle.made_programs.specs.declared.program.MadeLoad.{MadeLoad}

-- the name of the file
abbrev pub main_name : List ℕ
main_name = codes "made"

-- the files: this one
abbrev pub made_files : ℕ → List NamedBytes
made_files count = record { name = main_name; bytes = made_text count } ∷ []

-- the whole program of the files
abbrev pub IsMadeProgram : ℕ → List AddedFile → Type 0
IsMadeProgram count program = IsLoaded (made_files count) main_name program

-- the one cause for which the files hold no program
abbrev pub IsMadeRefusal : ℕ → Refusal → Type 0
IsMadeRefusal count refusal = IsStopped (made_files count) main_name refusal

-- what the files allow
abbrev pub IsMadeLoad : ℕ → MadeLoad → Type 0
IsMadeLoad count (MadeLoad.Loaded program) = IsMadeProgram count program
IsMadeLoad count (MadeLoad.Stopped refusal) = IsMadeRefusal count refusal
