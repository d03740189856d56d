-- For each rule the slots that it reads, and for each slot the rules that read it.
use Rattle.std.specs.Prelude.{◌≡◌, ℕ, ◌<◌, List, [], ◌∷◌, ◌++◌, length, slice_index_or, slice_get, Some, if◌then◌else◌}
use Rattle.std.specs.List.Sorted.{IsStrictlyIncreasing}
use Rattle.wake_ring.specs.Queue.{is_in}
use Rattle.wake_ring.specs.Order.{AllBelow}
use Rattle.box_eval.specs.declared.rule.Rule.{Rule}
use Rattle.box_eval.specs.Reads.{reads, IsSlotList}

-- for each rule, the slots that it reads, ascending
pub record AreSlotLists (rules : List Rule) (lists : List (List ℕ)) : Type 0 where
  pub long : length lists ≡ length rules
  pub each : (k : ℕ) (rule : Rule) → slice_get rules k ≡ Some rule → IsSlotList rule (slice_index_or lists k [])

-- one for each of the first so many rules
pub record AreFirstSlotLists (rules : List Rule) (count : ℕ) (lists : List (List ℕ)) : Type 0 where
  pub long : length lists ≡ count
  pub each : (k : ℕ) (rule : Rule) → k < count → slice_get rules k ≡ Some rule → IsSlotList rule (slice_index_or lists k [])

-- those of the first so many rules that read a slot, ascending
pub record IsRuleList (rules : List Rule) (count slot : ℕ) (numbers : List ℕ) : Type 0 where
  pub told : (k : ℕ) (rule : Rule) → k < count → slice_get rules k ≡ Some rule → is_in k numbers ≡ reads rule slot
  pub below : AllBelow count numbers
  pub ascending : IsStrictlyIncreasing numbers

-- one for each of so many slots
pub record AreRuleLists (rules : List Rule) (count slots : ℕ) (lists : List (List ℕ)) : Type 0 where
  pub long : length lists ≡ slots
  pub each : (slot : ℕ) → slot < slots → IsRuleList rules count slot (slice_index_or lists slot [])

-- a number was put at the end of the list of each slot of some
pub record IsEntered (number : ℕ) (slots : List ℕ) (old new : List (List ℕ)) : Type 0 where
  pub long : length new ≡ length old
  pub each : (k : ℕ) → slice_index_or new k [] ≡ (if is_in k slots then slice_index_or old k [] ++ number ∷ [] else slice_index_or old k [])
