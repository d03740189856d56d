use Rattle.wake_ring.specs.Links.{IsOwn}
use Rattle.wake_ring.proofs.chain.numbers.Given as goal

abbrev pub invariant-loop-number : goal.invariant-loop-number
invariant-loop-number l = IsOwn l.number l.numbers.items
