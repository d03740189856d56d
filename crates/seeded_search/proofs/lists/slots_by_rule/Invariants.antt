use Rattle.seeded_search.specs.SlotLists.{AreFirstSlotLists}
use Rattle.seeded_search.proofs.lists.slots_by_rule.Given as goal

abbrev pub invariant-loop-rule : goal.invariant-loop-rule
invariant-loop-rule l = AreFirstSlotLists l.rules l.rule-index l.lists.items
