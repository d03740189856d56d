use Rattle.std.proofs.Common.{◌∙◌, ap, map, None}
use Rattle.type_members.specs.osc_base.FaultRows.{first_from}
use Rattle.type_members.specs.type_heads.Bodied.{seen_body}
use Rattle.type_members.specs.type_heads.Table.{all_types}
use Rattle.type_members.specs.type_heads.HeadingFaults.{cycle_row}
use Rattle.heading_faults.specs.NameFaults.{rows_of_names}
use Rattle.fault_sets.proofs.RowSteps.{two}
use Rattle.heading_faults.proofs.HeadingRows.{heading_rows_are}
use Rattle.heading_faults.proofs.headings.first_heading_fault.Goals as goal

pub returns : goal.returns
returns c = λ p same.
    let heads = c.args.heads.now in
    let bodies = map seen_body c.args.bodies.now in
    two (rows_of_names heads c.args.declarations.now) (map (cycle_row heads bodies) (all_types heads)) None c.in_ok-first.first c.in_ok-found.found c.in_ok-first.ensures c.in_ok-found.ensures
    ∙ ap (first_from None) (heading_rows_are p c.args.declarations.now heads bodies c.requires.same_heads c.requires.same_bodies same)
