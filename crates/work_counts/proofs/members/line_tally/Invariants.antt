use Rattle.std.proofs.Common.{length}
use Rattle.program_texts.specs.type_heads.Table.{line_within}
use Rattle.program_texts.specs.SeenTexts.{types_in}
use Rattle.work_counts.specs.Amounts.{kept, sum_of}
use Rattle.work_counts.specs.TextAmounts.{base_amount}
use Rattle.work_counts.proofs.Sums.{Counted}
use Rattle.work_counts.proofs.members.line_tally.Given as goal

abbrev pub invariant-loop-steps : goal.invariant-loop-steps
invariant-loop-steps l = Counted l.all
    (kept (sum_of (base_amount (types_in l.texts) l.of) (line_within l.steps (types_in l.texts).table.heads l.at)))
    (kept (sum_of (base_amount (types_in l.texts) l.of) (line_within (length (types_in l.texts).table.heads) (types_in l.texts).table.heads l.fn.first)))

abbrev pub decreases-loop-steps : goal.decreases-loop-steps
decreases-loop-steps l = l.steps
