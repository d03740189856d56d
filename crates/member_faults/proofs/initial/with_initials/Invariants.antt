use Rattle.std.proofs.Common.{◌≡◌, drop, flat_map, map}
use Rattle.type_members.specs.osc_base.FaultRows.{first_from}
use Rattle.type_members.specs.type_heads.Types.{Member}
use Rattle.type_members.specs.type_heads.MemberFaults.{initial_rows}
use Rattle.type_members.specs.Listed.{seen_listed}
use Rattle.member_faults.proofs.initial.with_initials.Given as goal

abbrev pub invariant-loop-listed : goal.invariant-loop-listed
invariant-loop-listed l =
    first_from l.fn.first (flat_map (λ (m : Member). initial_rows l.heads m.written.member) (map seen_listed l.members))
    ≡ first_from l.found (flat_map (λ (m : Member). initial_rows l.heads m.written.member) (map seen_listed (drop l.listed-index l.members)))
