use Rattle.std.proofs.Common.{◌∙◌, sym}
use Rattle.search_plans.proofs.Choices.{passed}
use Rattle.search_plans.proofs.choice.first_free.Goals as goal

pub loop-slot-preserved : goal.loop-slot-preserved
loop-slot-preserved g c = c.loop-slot.invariant ∙ passed (g.E.Ends.ends c.args.ends.now) c.loop-slot.slot c.len-slot-end.result c.loop-slot-test.true (sym c.is_wide.ensures ∙ c.if-is_wide.false)
