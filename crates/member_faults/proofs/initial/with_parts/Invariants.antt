use Rattle.std.proofs.Common.{◌≡◌, drop, map}
use Rattle.type_members.specs.osc_base.FaultRows.{first_from}
use Rattle.type_members.specs.Listed.{seen_row}
use Rattle.type_members.specs.Shared.{members_in_parts}
use Rattle.member_faults.specs.RowFacts.{initials_among}
use Rattle.member_faults.proofs.initial.with_parts.Given as goal

abbrev pub invariant-loop-part : goal.invariant-loop-part
invariant-loop-part l =
    first_from l.fn.first (initials_among l.heads (members_in_parts (map seen_row l.lists.rows.items) l.parts))
    ≡ first_from l.found (initials_among l.heads (members_in_parts (map seen_row l.lists.rows.items) (drop l.part-index l.parts)))
