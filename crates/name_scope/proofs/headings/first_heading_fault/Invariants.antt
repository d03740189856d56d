use Rattle.std.proofs.Common.{◌≡◌, take, drop}
use Rattle.dsl_tree.specs.osc_base.FaultRows.{first_from, first_fault}
use Rattle.name_scope.specs.Headings.{declarations, rows_behind, heading_rows}
use Rattle.name_scope.proofs.headings.first_heading_fault.Given as goal

abbrev pub invariant-loop-number : goal.invariant-loop-number
invariant-loop-number l =
    first_fault (heading_rows l.sources)
    ≡ first_from l.found (rows_behind (declarations l.sources) (declarations (take l.number l.sources)) (declarations (drop l.number l.sources)))
