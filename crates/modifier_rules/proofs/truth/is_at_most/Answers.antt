use Rattle.std.proofs.lemmas.Bool.{false≢true}
use Rattle.modifier_rules.proofs.truth.is_at_most.Goals as goal

pub returns-in-None : goal.returns-in-None
returns-in-None c =
    let exact = c.in-None.ensures.exact in
    absurd (false≢true (exact.exactly.1 (c.requires exact.over.common exact.over.left exact.over.right exact.over.is_common exact.over.left_same exact.over.right_same)))
