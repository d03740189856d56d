use Rattle.std.proofs.Common.{◌≡◌, drop, flat_map, map}
use Rattle.type_members.specs.osc_base.FaultRows.{first_from}
use Rattle.type_members.specs.dsl_tree.Views.{member_tree}
use Rattle.type_members.specs.type_heads.HeadingFaults.{member_rows}
use Rattle.heading_faults.proofs.members.with_members.Given as goal

abbrev pub invariant-loop-member : goal.invariant-loop-member
invariant-loop-member l =
    first_from l.fn.first (flat_map (member_rows l.heads) (map member_tree l.members))
    ≡ first_from l.found (flat_map (member_rows l.heads) (map member_tree (drop l.member-index l.members)))
