-- The rows of headings, over what is gathered of a program.
use Rattle.std.proofs.Common.{◌≡◌, ◌∙◌, sym, ap, List, ◌++◌, flat_map, map}
use Rattle.std.specs.Prelude.{filter_map}
use Rattle.type_members.specs.osc_base.FaultRows.{FaultRow}
use Rattle.type_members.specs.type_heads.Table.{TypeHead, all_types}
use Rattle.type_members.specs.type_heads.Types.{Program, TypeBody}
use Rattle.type_members.specs.type_heads.DeclaredTypes.{Placed, all_declared, bodies_from, declared_heads, heads_from, placed, types_of}
use Rattle.type_members.specs.type_heads.Gathered.{all_of, heads_of}
use Rattle.type_members.specs.type_heads.HeadsGrouped.{all_heads}
use Rattle.type_members.specs.type_heads.Bodied.{all_bodies}
use Rattle.type_members.specs.type_heads.HeadingFaults.{basic_names, cycle_row, declaration_rows, enum_rows_from, heading_rows, name_declared, twice_rows}
use Rattle.type_members.specs.type_heads.declared.declarations.Declarations.{Declarations}
use Rattle.heading_faults.specs.NameFaults.{rows_of_names}
use Rattle.heading_faults.proofs.HeadNames.{same_enum_rows, same_names}

abbrev heads_at : List Placed → List TypeHead
heads_at all = heads_from (declared_heads all) all 0 (all_declared all)

abbrev bodies_at : List Placed → List TypeBody
bodies_at all = bodies_from (declared_heads all) all 0 (all_declared all)

abbrev rows_at : List Placed → List TypeHead → List TypeHead → List TypeBody → List FaultRow
rows_at all names heads bodies =
    twice_rows basic_names (filter_map (λ (d : Placed). name_declared d.declaration) all)
    ++ flat_map (λ (d : Placed). declaration_rows heads d.declaration) all
    ++ enum_rows_from names all 0 (all_declared all)
    ++ map (cycle_row heads bodies) (all_types heads)

-- names mean the same among the types as declared and among the types
by_heads : (all : List Placed) (bodies : List TypeBody) → rows_at all (declared_heads all) (heads_at all) bodies ≡ rows_at all (heads_at all) (heads_at all) bodies
by_heads all bodies =
    ap (λ rs. twice_rows basic_names (filter_map (λ (d : Placed). name_declared d.declaration) all)
    ++ flat_map (λ (d : Placed). declaration_rows (heads_at all) d.declaration) all ++ rs ++ map (cycle_row (heads_at all) bodies) (all_types (heads_at all)))
    (sym (same_enum_rows (heads_at all) (declared_heads all) (same_names (declared_heads all) all (all_declared all)) all 0 (all_declared all)))

pub heading_rows_are : (p : Program) (d : Declarations) (heads : List TypeHead) (bodies : List TypeBody) → heads ≡ all_heads (all_of d) → bodies ≡ all_bodies (all_of d) →
    all_of d ≡ placed p → rows_of_names heads d ++ map (cycle_row heads bodies) (all_types heads) ≡ heading_rows p (types_of p)
unfolding types_of all_heads all_bodies heads_of
heading_rows_are p d heads bodies same_heads same_bodies same =
    let all = all_of d in
    ap (λ hs. rows_at all (declared_heads all) hs bodies) same_heads
    ∙ ap (λ bs. rows_at all (declared_heads all) (heads_at all) bs) same_bodies
    ∙ by_heads all (bodies_at all)
    ∙ ap (λ ps. rows_at ps (heads_at ps) (heads_at ps) (bodies_at ps)) same
