use Rattle.std.proofs.Common.{map}
use Rattle.program_texts.specs.type_heads.Members.{members}
use Rattle.program_texts.specs.type_heads.Types.{Member}
use Rattle.program_texts.specs.type_members.Listed.{seen_row}
use Rattle.program_texts.proofs.of_program_fields.Fronts.{left_at}
use Rattle.program_texts.specs.SeenTexts.{types_in}
use Rattle.work_counts.specs.Amounts.{kept, sum_of}
use Rattle.work_counts.specs.TextAmounts.{member_amount}
use Rattle.work_counts.proofs.Sums.{Counted}
use Rattle.work_counts.proofs.members.parts_tally.Given as goal

abbrev pub invariant-loop-part : goal.invariant-loop-part
invariant-loop-part l = Counted l.all
    (kept (sum_of (λ (m : Member). member_amount (types_in l.texts) m.written.member) (left_at (map seen_row l.lists.rows.items) l.part-items l.part-index l.span)))
    (kept (sum_of (λ (m : Member). member_amount (types_in l.texts) m.written.member) (members (types_in l.texts) l.fn.of)))
