use Rattle.std.proofs.Common.{◌≡◌, drop, map}
use Rattle.type_members.specs.Listed.{seen_row}
use Rattle.type_members.specs.Shared.{members_in_parts}
use Rattle.member_faults.specs.ListedRows.{field_found}
use Rattle.member_faults.proofs.fields.field_in_parts.Given as goal

abbrev pub invariant-loop-part : goal.invariant-loop-part
invariant-loop-part l =
    field_found l.name (members_in_parts (map seen_row l.lists.rows.items) l.parts) ≡ field_found l.name (members_in_parts (map seen_row l.lists.rows.items) (drop l.part-index l.parts))
