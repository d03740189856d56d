use Rattle.std.proofs.Common.{◌≡◌, ◌++◌, List, drop, map}
use Rattle.type_members.specs.osc_base.FaultRows.{first_from}
use Rattle.type_members.specs.type_heads.Seen.{seen_form}
use Rattle.type_members.specs.type_heads.Types.{Do}
use Rattle.type_members.specs.type_heads.MemberFaults.{do_rows}
use Rattle.type_members.specs.Listed.{seen_row}
use Rattle.type_members.specs.Shared.{members_in_parts}
use Rattle.member_faults.specs.RowFacts.{dos_among}
use Rattle.member_faults.proofs.dos.with_parts.Given as goal

abbrev pub invariant-loop-part : goal.invariant-loop-part
invariant-loop-part l =
    (later : List Do) → first_from l.fn.so_far.first (do_rows (seen_form l.form) l.fn.so_far.is_later (dos_among (members_in_parts (map seen_row l.lists.rows.items) l.parts) ++ later))
    ≡ first_from l.after.first (do_rows (seen_form l.form) l.after.is_later (dos_among (members_in_parts (map seen_row l.lists.rows.items) (drop l.part-index l.parts)) ++ later))
