-- Worked programs, by computation.
use Rattle.std.proofs.Common.{◌≡◌, refl, ℕ, List, [], ◌∷◌, Option, Some, None, codes}
use Rattle.dsl_tree.specs.osc_base.declared.fault.Place.{Place}
use Rattle.dsl_tree.specs.osc_base.declared.fault.FaultCode.{FaultCode}
use Rattle.dsl_tree.specs.osc_base.declared.fault.Fault.{Fault}
use Rattle.dsl_tree.specs.declared.parts.Ident.{Ident}
use Rattle.dsl_tree.specs.declared.parts.QName.{QName}
use Rattle.dsl_tree.specs.declared.compounds.CompoundKind.{CompoundKind}
use Rattle.dsl_tree.specs.declared.compounds.Heir.{Heir}
use Rattle.dsl_tree.specs.declared.file.Declaration.{Declaration}
use Rattle.dsl_tree.specs.declared.file.Import.{Import}
use Rattle.name_scope.specs.declared.ids.NameKind.{NameKind}
use Rattle.name_scope.specs.declared.names.FileName.{FileName}
use Rattle.name_scope.specs.FileNumbers.{AddedFile, numbered_names, wanted_name, wanted_mention, adding_fault}
use Rattle.name_scope.specs.Declaring.{found}
use Rattle.dsl_tree.specs.osc_base.FaultRows.{first_fault}
use Rattle.name_scope.specs.Headings.{heading_rows}

abbrev at : ℕ → ℕ → Place
at file token = record { file = file; line = 1; column = 1; token = token }

abbrev fault : ℕ → ℕ → FaultCode → Fault
fault file token code = record { place = at file token; code = code }

abbrev name : ℕ → ℕ → List ℕ → Ident
name file token text = record { place = at file token; text = text }

abbrev alone : Ident → QName
alone i = record { first = i; second = None }

abbrev owned : Ident → Ident → QName
owned i j = record { first = i; second = Some j }

abbrev compound : CompoundKind → QName → Option Heir → Declaration
compound kind q heir = Declaration.Compound (record { place = q.first.place; kind = kind; name = q; heir = heir; members = [] })

abbrev file_of : List ℕ → List Import → List Declaration → AddedFile
file_of text imports decls = record { name = text; file = record { imports = imports; modifiers = []; decls = decls; end = at 0 99 } }

-- two files that import each other
abbrev first : AddedFile
first = file_of (codes "a.osc") (Import.Named (at 0 1) (codes "b.osc") ∷ []) (compound CompoundKind.Scenario (alone (name 0 4 (codes "top"))) None ∷ [])

abbrev second : AddedFile
second = file_of (codes "b.osc") (Import.Named (at 1 1) (codes "a.osc") ∷ []) (compound CompoundKind.Scenario (alone (name 1 4 (codes "other"))) None ∷ [])

nothing_wanted : wanted_name [] ≡ None
nothing_wanted = refl

second_wanted : wanted_name (first ∷ []) ≡ Some (FileName.Named (codes "b.osc"))
second_wanted = refl

second_mentioned : wanted_mention (first ∷ []) ≡ Some (at 0 1)
second_mentioned = refl

cycle_numbered : numbered_names (first ∷ second ∷ []) ≡ FileName.Named (codes "a.osc") ∷ FileName.Named (codes "b.osc") ∷ []
cycle_numbered = refl

cycle_ended : wanted_name (first ∷ second ∷ []) ≡ None
cycle_ended = refl

cycle_sound : first_fault (heading_rows (first ∷ second ∷ [])) ≡ None
cycle_sound = refl

other_found : found NameKind.BehaviourName None (codes "other") (first ∷ second ∷ []) ≡ Some (record { file = 1; index = 0 })
other_found = refl

other_owned : found NameKind.BehaviourName (Some (codes "top")) (codes "other") (first ∷ second ∷ []) ≡ None
other_owned = refl

-- a second file that declares the scenario `top` again
abbrev again : AddedFile
again = file_of (codes "b.osc") (Import.Named (at 1 1) (codes "a.osc") ∷ []) (compound CompoundKind.Scenario (alone (name 1 4 (codes "top"))) None ∷ [])

top_twice : first_fault (heading_rows (first ∷ again ∷ [])) ≡ Some (fault 1 4 FaultCode.Twice)
top_twice = refl

top_found : found NameKind.BehaviourName None (codes "top") (first ∷ again ∷ []) ≡ Some (record { file = 0; index = 0 })
top_found = refl

-- A file with two modifiers of one name. The scenario of that name has a space of its own.
abbrev modified : AddedFile
modified = record {
  name = codes "main.osc";
  file = record {
    imports = [];
    modifiers =
        record { place = at 0 0; name = name 0 1 (codes "slow"); parts = [] }
        ∷ record { place = at 0 9; name = name 0 10 (codes "top"); parts = [] }
        ∷ record { place = at 0 18; name = name 0 19 (codes "top"); parts = [] }
        ∷ [];
    decls = compound CompoundKind.Scenario (alone (name 0 28 (codes "top"))) None ∷ [];
    end = at 0 99;
  };
}

modifier_found : found NameKind.ModifierName None (codes "top") (first ∷ modified ∷ []) ≡ Some (record { file = 1; index = 1 })
modifier_found = refl

modifier_owned : found NameKind.ModifierName (Some (codes "slow")) (codes "top") (modified ∷ []) ≡ None
modifier_owned = refl

no_modifier : found NameKind.ModifierName None (codes "other") (first ∷ modified ∷ []) ≡ None
no_modifier = refl

behaviour_apart : found NameKind.BehaviourName None (codes "top") (modified ∷ []) ≡ Some (record { file = 0; index = 0 })
behaviour_apart = refl

-- a dotted import
abbrev dotted : List ℕ → AddedFile
dotted text = file_of (codes "main.osc") (Import.Dotted (name 0 1 text ∷ name 0 3 (codes "a") ∷ []) ∷ Import.Named (at 0 6) (codes "osc") ∷ []) []

library_missing : adding_fault [] (dotted (codes "lib")) ≡ Some (fault 0 1 FaultCode.MissingImport)
library_missing = refl

library_asked : adding_fault [] (dotted (codes "osc")) ≡ None
library_asked = refl

-- a file that is called `osc` isn't the library
library_apart : numbered_names (dotted (codes "osc") ∷ []) ≡ FileName.Named (codes "main.osc") ∷ FileName.Library ∷ FileName.Named (codes "osc") ∷ []
library_apart = refl

-- headings
abbrev headings : List Declaration → Option Fault
headings decls = first_fault (heading_rows (file_of (codes "main.osc") [] decls ∷ []))

basic_declared : headings (compound CompoundKind.Struct (alone (name 0 1 (codes "int"))) None ∷ []) ≡ Some (fault 0 1 FaultCode.Twice)
basic_declared = refl

owner_missing : headings (compound CompoundKind.Action (owned (name 0 1 (codes "car")) (name 0 3 (codes "go"))) None ∷ []) ≡ Some (fault 0 1 FaultCode.Unknown)
owner_missing = refl

abbrev car_goes : List Declaration
car_goes =
    compound CompoundKind.Actor (alone (name 0 1 (codes "car"))) None
    ∷ compound CompoundKind.Action (owned (name 0 4 (codes "car")) (name 0 6 (codes "go"))) None
    ∷ []

owner_there : headings car_goes ≡ None
owner_there = refl

-- `inherits car.stop`: the owner is declared, and has no such behaviour
base_missing : headings (compound CompoundKind.Action (owned (name 0 1 (codes "car")) (name 0 3 (codes "halt"))) (Some (record { base = owned (name 0 5 (codes "car")) (name 0 7 (codes "stop")); condition = None })) ∷ compound CompoundKind.Actor (alone (name 0 9 (codes "car"))) None ∷ []) ≡ Some (fault 0 7 FaultCode.Unknown)
base_missing = refl

-- owned behaviours of two owners have names of their own
apart : headings (compound CompoundKind.Actor (alone (name 0 1 (codes "car"))) None ∷ compound CompoundKind.Scenario (alone (name 0 3 (codes "go"))) None
    ∷ compound CompoundKind.Action (owned (name 0 5 (codes "car")) (name 0 7 (codes "go"))) None ∷ []) ≡ None
apart = refl
