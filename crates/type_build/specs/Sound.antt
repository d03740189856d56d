-- What is known of programs with these declarations.
use Rattle.std.specs.Prelude.{◌≡◌, List, Some, None}
use Rattle.std.specs.Option.{option_or}
use Rattle.type_model.specs.osc_base.declared.fault.Fault.{Fault}
use Rattle.type_model.specs.osc_base.FaultRows.{first_fault}
use Rattle.type_model.specs.type_heads.Table.{TypeHead}
use Rattle.type_model.specs.type_heads.Types.{Program, TypeBody, Member, Types}
use Rattle.type_model.specs.type_heads.Told.{Told, told}
use Rattle.type_model.specs.type_heads.DeclaredTypes.{Placed, placed, types_of}
use Rattle.type_model.specs.type_heads.HeadingFaults.{heading_rows}
use Rattle.type_model.specs.type_heads.MemberFaults.{member_fault_rows}
use Rattle.type_model.specs.Built.{HaveParts}

-- the declarations are those of a program
abbrev pub AreOfProgram : List Placed → Type 0
AreOfProgram all = (p : Program) × (all ≡ placed p)

-- no heading has a fault
abbrev pub HeadingsAreSound : List Placed → Type 0
HeadingsAreSound all = (p : Program) → all ≡ placed p → first_fault (heading_rows p (types_of p)) ≡ None

-- the first fault of headings
abbrev pub IsHeadingFault : List Placed → Fault → Type 0
IsHeadingFault all f = (p : Program) → all ≡ placed p → first_fault (heading_rows p (types_of p)) ≡ Some f

-- no member of such types has a fault
abbrev pub MembersAreSound : List TypeHead → List TypeBody → List (List Member) → Type 0
MembersAreSound heads bodies lists = (ts : Types) → HaveParts heads bodies lists ts → first_fault (member_fault_rows ts) ≡ None

-- the first fault of members of such types
abbrev pub IsMemberFault : List TypeHead → List TypeBody → List (List Member) → Fault → Type 0
IsMemberFault heads bodies lists f = (ts : Types) → HaveParts heads bodies lists ts → first_fault (member_fault_rows ts) ≡ Some f

-- what is told of the types
abbrev pub AreTold : List Placed → Told → Type 0
AreTold all t = (p : Program) → all ≡ placed p → t ≡ told (types_of p)

-- what is told of the types, none of which has a fault
abbrev pub AreTypes : List Placed → Told → Type 0
AreTypes all t =
    (p : Program) → all ≡ placed p →
    (t ≡ told (types_of p)) × (first_fault (heading_rows p (types_of p)) ≡ None) × (first_fault (member_fault_rows (types_of p)) ≡ None)

-- the first fault of headings, or else of members
abbrev pub IsFirstFault : List Placed → Fault → Type 0
IsFirstFault all f =
    (p : Program) → all ≡ placed p → option_or (first_fault (heading_rows p (types_of p))) (first_fault (member_fault_rows (types_of p))) ≡ Some f
