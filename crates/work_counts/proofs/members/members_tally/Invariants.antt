use Rattle.std.proofs.Common.{◌≡◌, take, map}
use Rattle.program_texts.specs.type_heads.Types.{Member}
use Rattle.program_texts.specs.type_members.Listed.{seen_listed}
use Rattle.program_texts.specs.SeenTexts.{types_in}
use Rattle.work_counts.specs.Amounts.{kept, sum_of}
use Rattle.work_counts.specs.TextAmounts.{member_amount}
use Rattle.work_counts.proofs.members.members_tally.Given as goal

abbrev pub invariant-loop-listed : goal.invariant-loop-listed
invariant-loop-listed l = l.all ≡ kept (sum_of (λ (m : Member). member_amount (types_in l.texts) m.written.member) (map seen_listed (take l.listed-index l.members)))
