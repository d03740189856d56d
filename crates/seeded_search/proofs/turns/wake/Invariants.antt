use Rattle.std.proofs.Common.{◌≡◌, take}
use Rattle.seeded_search.specs.Listed.{rules_at}
use Rattle.seeded_search.specs.Waking.{IsWokenFrom}
use Rattle.seeded_search.proofs.turns.wake.Given as goal

abbrev pub invariant-loop-number : goal.invariant-loop-number
invariant-loop-number l = (l.ring.bound ≡ l.initial.ring.bound) × IsWokenFrom (take l.number-index (rules_at l.lists l.slot)) l.marks.listed l.initial.ring.items l.ring.items
