use Rattle.program_texts.specs.type_heads.Types.{Member}
use Rattle.program_texts.specs.type_members.Listed.{seen_listed}
use Rattle.program_texts.specs.SeenTexts.{types_in}
use Rattle.work_counts.specs.TextAmounts.{member_amount}
use Rattle.work_counts.proofs.Sums.{kept_more}
use Rattle.work_counts.proofs.members.members_tally.Goals as goal

pub loop-listed-init : goal.loop-listed-init
loop-listed-init c = c.none-all.ensures

pub loop-listed-preserved : goal.loop-listed-preserved
loop-listed-preserved c =
    kept_more (λ (m : Member). member_amount (types_in c.args.texts.now) m.written.member) seen_listed c.args.members.now c.loop-listed.listed-index c.listed-item.result c.loop-listed.all c.member_tally.result c.with-all.result
    c.loop-listed.invariant c.member_tally.ensures c.with-all.ensures c.loop-listed-test.true c.listed-item.is
