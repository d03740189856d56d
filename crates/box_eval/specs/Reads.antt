-- Which slots a rule reads.
use Rattle.std.specs.Prelude.{◌≡◌, ℕ, Bool, nat_eq, List, [], ◌∷◌, ◌++◌, ⊤}
use Rattle.std.specs.List.{list_any}
use Rattle.std.specs.List.Sorted.{IsStrictlyIncreasing}
use Rattle.box_eval.specs.declared.rule.Rule.{Rule}
use Rattle.box_eval.specs.declared.rule.Term.{Term}
use Rattle.box_eval.specs.declared.rule.Rule.TheOpen.{Rule-F, Term-F, Always, Below, AtMost, Equal, Differ, Both, Either, Not, Whole, Slot, Sum, Less, Times, Truth}
use Rattle.box_eval.specs.declared.rule.Rule.TheFolds.{fold-Rule, fold-Term}
use Rattle.box_eval.specs.declared.bounds.Pair.{Pair}
use Rattle.box_eval.specs.Box.{low_at, high_at}

-- the slots of a term, from those of its parts
abbrev pub read_in_term : Term-F (List ℕ) (List ℕ) → List ℕ
read_in_term (Whole n) = []
read_in_term (Slot slot) = slot ∷ []
read_in_term (Sum a b) = a ++ b
read_in_term (Less a b) = a ++ b
read_in_term (Times a b) = a ++ b
read_in_term (Truth rule) = rule

-- the slots of a rule, from those of its parts
abbrev pub read_in_rule : Rule-F (List ℕ) (List ℕ) → List ℕ
read_in_rule Always = []
read_in_rule (Below a b) = a ++ b
read_in_rule (AtMost a b) = a ++ b
read_in_rule (Equal a b) = a ++ b
read_in_rule (Differ a b) = a ++ b
read_in_rule (Both a b) = a ++ b
read_in_rule (Either a b) = a ++ b
read_in_rule (Not a) = a

-- the slots that a rule reads, in the order in which they stand, each as often as it does
abbrev pub slots_read : Rule → List ℕ
slots_read = fold-Rule (List ℕ) (List ℕ) read_in_rule read_in_term

-- the slots that a term reads
abbrev pub term_slots_read : Term → List ℕ
term_slots_read = fold-Term (List ℕ) (List ℕ) read_in_rule read_in_term

-- whether a rule reads a slot
abbrev pub reads : Rule → ℕ → Bool
reads rule slot = list_any (nat_eq slot) (slots_read rule)

-- the slots that a rule reads, each once, ascending
pub record IsSlotList (rule : Rule) (slots : List ℕ) : Type 0 where
  pub told : (slot : ℕ) → list_any (nat_eq slot) slots ≡ reads rule slot
  pub ascending : IsStrictlyIncreasing slots

-- two boxes have equal ends at each slot of a list
abbrev pub AgreeOn : List ℕ → List Pair → List Pair → Type 0
AgreeOn [] a b = ⊤
AgreeOn (slot ∷ slots) a b = (low_at a slot ≡ low_at b slot) × (high_at a slot ≡ high_at b slot) × AgreeOn slots a b
