use Rattle.std.proofs.Common.{take}
use Rattle.seeded_search.specs.SlotLists.{IsEntered}
use Rattle.seeded_search.proofs.lists.enter.Given as goal

abbrev pub invariant-loop-slot : goal.invariant-loop-slot
invariant-loop-slot l = IsEntered l.number (take l.slot-index l.slots) l.initial.lists.items l.lists.items
