use Rattle.std.proofs.Common.{drop, filter_map}
use Rattle.type_members.specs.osc_base.FaultRows.{first_from}
use Rattle.type_members.specs.type_heads.HeadingFaults.{basic_names, name_declared, twice_rows}
use Rattle.heading_faults.specs.Trees.{trees}
use Rattle.heading_faults.proofs.NameSteps.{NamesLeft}
use Rattle.heading_faults.proofs.names.with_names.Given as goal

abbrev pub invariant-loop-placed : goal.invariant-loop-placed
invariant-loop-placed l = NamesLeft (first_from l.fn.first (twice_rows basic_names (filter_map name_declared (trees l.all)))) l.met.keys.keys l.found
    (trees (drop l.placed-index l.all))
