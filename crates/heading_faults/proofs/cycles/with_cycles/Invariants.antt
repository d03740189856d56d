use Rattle.std.proofs.Common.{◌≡◌, drop, map}
use Rattle.type_members.specs.osc_base.FaultRows.{first_from}
use Rattle.type_members.specs.type_heads.Bodied.{seen_body}
use Rattle.type_members.specs.type_heads.Table.{all_types, numbers_from}
use Rattle.type_members.specs.type_heads.HeadingFaults.{cycle_row}
use Rattle.heading_faults.proofs.cycles.with_cycles.Given as goal

abbrev pub invariant-loop-number : goal.invariant-loop-number
invariant-loop-number l =
    first_from l.fn.first (map (cycle_row l.held.heads.now (map seen_body l.held.bodies.now)) (all_types l.held.heads.now))
    ≡ first_from l.found (map (cycle_row l.held.heads.now (map seen_body l.held.bodies.now)) (numbers_from l.number (drop l.number l.held.heads.now)))
