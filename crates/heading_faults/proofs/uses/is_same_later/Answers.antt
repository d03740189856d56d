use Rattle.heading_faults.proofs.Chains.{passes}
use Rattle.heading_faults.proofs.uses.is_same_later.Goals as goal

pub returns : goal.returns
returns c = passes c.same.result _ _ _ c.same.ensures c.if-not-same.false (passes c.same-2.result _ _ _ c.same-2.ensures c.if-not-same-2.false (passes c.same-3.result _ _ _ c.same-3.ensures c.if-not-same-3.false
    (passes c.same-4.result _ _ _ c.same-4.ensures c.if-not-same-4.false c.same-5.ensures)))
