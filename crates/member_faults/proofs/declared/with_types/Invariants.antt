use Rattle.std.proofs.Common.{◌≡◌, drop, flat_map, map}
use Rattle.type_members.specs.osc_base.FaultRows.{first_from}
use Rattle.type_members.specs.type_heads.Bodied.{seen_body}
use Rattle.type_members.specs.type_heads.MemberFaults.{type_rows}
use Rattle.type_members.specs.type_heads.Table.{all_types, numbers_from}
use Rattle.type_members.specs.Listed.{lists_of}
use Rattle.member_faults.specs.ListedRows.{types_with}
use Rattle.member_faults.proofs.declared.with_types.Given as goal

abbrev pub invariant-loop-number : goal.invariant-loop-number
invariant-loop-number l =
    let ts = types_with l.depends.heads.now (map seen_body l.depends.bodies.now) (lists_of l.depends.lists.now) in
    first_from l.fn.first (flat_map (type_rows ts) (all_types l.depends.heads.now))
    ≡ first_from l.found (flat_map (type_rows ts) (numbers_from l.number (drop l.number l.depends.heads.now)))
