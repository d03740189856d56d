use Rattle.std.proofs.Common.{◌≡◌, None}
use Rattle.type_members.specs.osc_base.FaultRows.{first_fault, first_from}
use Rattle.type_members.specs.type_heads.DeclaredTypes.{all_declared}
use Rattle.type_members.specs.type_heads.Gathered.{all_of, heads_of}
use Rattle.heading_faults.specs.NameFaults.{rows_of_names}
use Rattle.type_members.specs.type_heads.HeadingFaults.{basic_names, declaration_rows, enum_rows_from, name_declared, twice_rows}
use Rattle.heading_faults.proofs.NameFaultRows.{joined}
use Rattle.fault_sets.proofs.RowSteps.{if_ok}
use Rattle.heading_faults.proofs.declared.first_name_fault.Goals as goal

pub returns : goal.returns
returns c =
    let enums = enum_rows_from (heads_of c.args.declarations.now) (all_of c.args.declarations.now) 0 (all_declared (all_of c.args.declarations.now)) in
    if_ok (λ f. f ≡ first_from c.in_ok-first-2.first enums) (λ f. f ≡ first_fault (rows_of_names c.args.heads.now c.args.declarations.now))
    (λ f more. joined (twice_rows basic_names) name_declared (declaration_rows c.args.heads.now) enums c.as_slice-all.result.now c.args.declarations.now.placed.items
    None c.in_ok-first.first c.in_ok-first-2.first f c.as_slice-all.ensures.value c.in_ok-first.ensures c.in_ok-first-2.ensures more)
    c.with_enums.result c.with_enums.ensures
