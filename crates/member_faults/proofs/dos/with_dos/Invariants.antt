use Rattle.std.proofs.Common.{◌≡◌, ◌++◌, List, drop, map}
use Rattle.type_members.specs.osc_base.FaultRows.{first_from}
use Rattle.type_members.specs.type_heads.Seen.{seen_form}
use Rattle.type_members.specs.type_heads.Types.{Do}
use Rattle.type_members.specs.type_heads.MemberFaults.{do_rows}
use Rattle.type_members.specs.Listed.{seen_listed}
use Rattle.type_members.specs.Shared.{under_inside}
use Rattle.member_faults.specs.RowFacts.{dos_among}
use Rattle.member_faults.proofs.dos.with_dos.Given as goal

abbrev pub invariant-loop-listed : goal.invariant-loop-listed
invariant-loop-listed l =
    (later : List Do) → first_from l.fn.so_far.first (do_rows (seen_form l.form) l.fn.so_far.is_later (dos_among (map (under_inside l.inside) (map seen_listed l.members)) ++ later))
    ≡ first_from l.after.first (do_rows (seen_form l.form) l.after.is_later (dos_among (map (under_inside l.inside) (map seen_listed (drop l.listed-index l.members))) ++ later))
