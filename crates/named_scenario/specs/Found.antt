-- What `find_scenario` returns.
use Rattle.std.specs.Prelude.{◌≡◌, ℕ, List, Option, Some, None}
use Rattle.dsl_tree.specs.Views.{compound_tree}
use Rattle.name_scope.specs.FileNumbers.{AddedFile}
use Rattle.program_uses.specs.type_heads.Told.{told}
use Rattle.named_scenario.specs.declared.named.NamedScenario.{NamedScenario}
use Rattle.named_scenario.specs.declared.named.NameStop.{NameStop}
use Rattle.named_scenario.specs.Declarations.{IsDeclaredBy}
use Rattle.named_scenario.specs.Naming.{fault_in, scenario_in, types_in}

-- the declarations have no fault, and it is the scenario of that name
pub record IsNamed (files : List AddedFile) (owner : Option (List ℕ)) (name : List ℕ) (n : NamedScenario) : Type 0 where
  pub same_types : n.types ≡ told (types_in files)
  pub sound : fault_in files ≡ None
  pub named : scenario_in files owner name ≡ Some n.id
  pub declared : IsDeclaredBy (types_in files) n.id (compound_tree n.declaration.now)

-- the first fault of the declarations; or they have none, and there is no scenario of that name
abbrev pub IsNoName : List AddedFile → Option (List ℕ) → List ℕ → NameStop → Type 0
IsNoName files owner name (NameStop.At fault) = fault_in files ≡ Some fault
IsNoName files owner name NameStop.Absent = (fault_in files ≡ None) × (scenario_in files owner name ≡ None)
IsNoName files owner name NameStop.Memory = Unit {0}
