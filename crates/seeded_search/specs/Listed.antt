-- The lists of a flat form.
use Rattle.std.specs.Prelude.{ℕ, List, [], length, slice_index_or}
use Rattle.box_eval.specs.declared.flat.Flat.{Flat}
use Rattle.seeded_search.specs.declared.lists.Lists.{Lists}
use Rattle.seeded_search.specs.SlotLists.{AreSlotLists, AreRuleLists}

-- the slots of a rule, and the rules of a slot
abbrev pub slots_at : Lists → ℕ → List ℕ
slots_at lists number = slice_index_or lists.slots.items number []

abbrev pub rules_at : Lists → ℕ → List ℕ
rules_at lists slot = slice_index_or lists.rules.items slot []

-- each rule's list has the slots that it reads, and each slot's the rules that read it, ascending
pub record IsListed (flat : Flat) (lists : Lists) : Type 0 where
  pub slots : AreSlotLists flat.rules lists.slots.items
  pub rules : AreRuleLists flat.rules (length flat.rules) (length flat.bounds.pairs) lists.rules.items
