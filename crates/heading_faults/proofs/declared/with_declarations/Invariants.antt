use Rattle.std.proofs.Common.{◌≡◌, drop, flat_map}
use Rattle.type_members.specs.osc_base.FaultRows.{first_from}
use Rattle.type_members.specs.type_heads.HeadingFaults.{declaration_rows}
use Rattle.heading_faults.specs.Trees.{trees}
use Rattle.heading_faults.proofs.declared.with_declarations.Given as goal

abbrev pub invariant-loop-placed : goal.invariant-loop-placed
invariant-loop-placed l =
    first_from l.fn.first (flat_map (declaration_rows l.heads) (trees l.all))
    ≡ first_from l.found (flat_map (declaration_rows l.heads) (trees (drop l.placed-index l.all)))
