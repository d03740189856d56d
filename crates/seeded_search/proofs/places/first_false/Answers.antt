use Rattle.std.proofs.Common.{arith, ap, length}
use Rattle.seeded_search.proofs.Presents.{none_close}
use Rattle.seeded_search.proofs.places.first_false.Goals as goal

pub returns-clause-none : goal.returns-clause-none
returns-clause-none c = none_close _ _ (λ k less. c.loop-number.invariant k (omega (arith, less, c.loop-number-test.false, ap length c.as_slice.ensures)))
