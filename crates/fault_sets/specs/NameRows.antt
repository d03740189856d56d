-- The names of members that were met, as the code holds them.
use Rattle.std.specs.Prelude.{◌≡◌, ℕ, List, ◌++◌, Option, bytes_eq}
use Rattle.std.specs.List.{list_any}
use Rattle.type_heads.specs.osc_base.declared.fault.Fault.{Fault}
use Rattle.type_heads.specs.osc_base.FaultRows.{first_from}
use Rattle.type_heads.specs.dsl_tree.declared.parts.Ident.{Ident}
use Rattle.type_heads.specs.MemberFaults.{repeated_rows}

-- a set has the texts of a list
abbrev pub HasTexts : List (List ℕ) → List (List ℕ) → Type 0
HasTexts set earlier = (other : List ℕ) → list_any (bytes_eq other) set ≡ list_any (bytes_eq other) earlier

-- after some names the rows of later ones are left
abbrev pub ContinuesNames : Option Fault → List (List ℕ) → Option Fault → List (List ℕ) → List Ident → Type 0
ContinuesNames first old found new names =
    (earlier : List (List ℕ)) (later : List Ident) → HasTexts old earlier →
    (now : List (List ℕ)) × HasTexts new now × (first_from first (repeated_rows earlier (names ++ later)) ≡ first_from found (repeated_rows now later))
