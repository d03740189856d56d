use Rattle.heading_faults.proofs.Chains.{fails, passes}
use Rattle.heading_faults.proofs.uses.is_same.Goals as goal

pub returns-then-not-same-2 : goal.returns-then-not-same-2
returns-then-not-same-2 c = passes c.same.result _ _ _ c.same.ensures c.if-not-same.false (fails c.same-2.result _ _ c.same-2.ensures c.if-not-same-2.true)

pub returns-then-not-same-3 : goal.returns-then-not-same-3
returns-then-not-same-3 c = passes c.same.result _ _ _ c.same.ensures c.if-not-same.false (passes c.same-2.result _ _ _ c.same-2.ensures c.if-not-same-2.false (fails c.same-3.result _ _ c.same-3.ensures c.if-not-same-3.true))

pub returns : goal.returns
returns c = passes c.same.result _ _ _ c.same.ensures c.if-not-same.false (passes c.same-2.result _ _ _ c.same-2.ensures c.if-not-same-2.false (passes c.same-3.result _ _ _ c.same-3.ensures c.if-not-same-3.false c.is_same_later.ensures))
