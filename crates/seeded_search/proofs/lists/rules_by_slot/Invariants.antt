use Rattle.std.proofs.Common.{length}
use Rattle.seeded_search.specs.SlotLists.{AreRuleLists}
use Rattle.seeded_search.proofs.lists.rules_by_slot.Given as goal

abbrev pub invariant-loop-number : goal.invariant-loop-number
invariant-loop-number l = AreRuleLists l.flat.rules l.number (length l.flat.bounds.pairs) l.lists.items
