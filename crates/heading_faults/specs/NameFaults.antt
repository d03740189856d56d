-- The faults of headings, but for types that depend on themselves, over what is gathered of a program.
use Rattle.std.specs.Prelude.{List, ◌++◌, filter_map, flat_map}
use Rattle.type_members.specs.osc_base.FaultRows.{FaultRow}
use Rattle.type_members.specs.type_heads.Table.{TypeHead}
use Rattle.type_members.specs.type_heads.DeclaredTypes.{Placed, all_declared}
use Rattle.type_members.specs.type_heads.Gathered.{all_of, heads_of}
use Rattle.type_members.specs.type_heads.HeadingFaults.{basic_names, declaration_rows, enum_rows_from, name_declared, twice_rows}
use Rattle.type_members.specs.type_heads.declared.declarations.Declarations.{Declarations}

-- names that are declared twice, names that are used, and members of enums
abbrev pub rows_of_names : List TypeHead → Declarations → List FaultRow
rows_of_names heads d =
    twice_rows basic_names (filter_map (λ (p : Placed). name_declared p.declaration) (all_of d))
    ++ flat_map (λ (p : Placed). declaration_rows heads p.declaration) (all_of d)
    ++ enum_rows_from (heads_of d) (all_of d) 0 (all_declared (all_of d))
