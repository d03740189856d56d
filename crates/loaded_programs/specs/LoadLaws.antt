-- What the load of a program gives meets what the laws on scenes ask.
use Rattle.std.specs.Prelude.{◌≡◌, ℕ, List, None}
use Rattle.outside_io.specs.declared.shelf.NamedBytes.{NamedBytes}
use Rattle.name_scope.specs.FileNumbers.{AddedFile}
use Rattle.program_load.specs.Loading.{IsLoaded}
use Rattle.checkable_scenes.specs.type_heads.DeclaredTypes.{program_of, types_of}
use Rattle.checkable_scenes.specs.composition.StaticFaults.{declaration_fault}
use Rattle.checkable_scenes.specs.Premises.{IsLoadedProgram}

-- of each program that is loaded and has no fault of declarations; with such a fault another file may take the name `vehicle`
abbrev pub LoadsAreLoadedPrograms : Type 0
LoadsAreLoadedPrograms =
    (files : List NamedBytes) (main : List ℕ) (program : List AddedFile) → IsLoaded files main program
    → declaration_fault (program_of program) (types_of (program_of program)) ≡ None → IsLoadedProgram (program_of program)
