use Rattle.std.proofs.Common.{◌≡◌, drop, flat_map}
use Rattle.dsl_tree.specs.osc_base.FaultRows.{first_from}
use Rattle.name_scope.specs.Headings.{declarations, member_rows}
use Rattle.name_scope.proofs.headings.with_members.Given as goal

abbrev pub invariant-loop-member : goal.invariant-loop-member
invariant-loop-member l =
    first_from l.fn.first (flat_map (member_rows (declarations l.all)) l.members)
    ≡ first_from l.found (flat_map (member_rows (declarations l.all)) (drop l.member-index l.members))
