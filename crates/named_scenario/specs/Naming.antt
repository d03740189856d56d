-- The types of the files of a program, the first fault of its declarations, and the scenario of a name.
use Rattle.std.specs.Prelude.{ℕ, List, Option}
use Rattle.osc_base.specs.declared.fault.Fault.{Fault}
use Rattle.name_scope.specs.FileNumbers.{AddedFile}
use Rattle.program_uses.specs.type_heads.Types.{Types}
use Rattle.program_uses.specs.type_heads.DeclaredTypes.{program_of, types_of}
use Rattle.program_uses.specs.composition.SceneFaults.{named_scenario}
use Rattle.program_uses.specs.composition.StaticFaults.{declaration_fault}

-- the types that the files declare
abbrev pub types_in : List AddedFile → Types
types_in files = types_of (program_of files)

-- the first fault of the declarations: of headings, else of members, else of uses
unfoldable pub fault_in : List AddedFile → Option Fault
fault_in files = declaration_fault (program_of files) (types_in files)

-- the scenario of that name, with its owner if it has one
unfoldable pub scenario_in : List AddedFile → Option (List ℕ) → List ℕ → Option ℕ
scenario_in files owner name = named_scenario (types_in files) owner name
