-- Flat forms whose ends are at most 1,000,000,000 in magnitude, and whose rules stay below 2^64 there.
use Rattle.std.specs.Prelude.{◌≡◌, ℕ, ◌+◌, ◌*◌, ◌≤◌, ◌<◌, ◌^◌, max, List, length, slice_get, Option, Some, None, IfSome, ⊤, pos, negsuc, ◌≤ℤ◌}
use Rattle.box_eval.specs.declared.rule.Rule.{Rule}
use Rattle.box_eval.specs.declared.bounds.Pair.{Pair}
use Rattle.box_eval.specs.Bounded.{rule_bound}
use Rattle.box_eval.specs.Reach.{slot_bound}

-- two numbers that may be missing, and what is made of both
abbrev pub IsMade : (ℕ → ℕ → ℕ) → Option ℕ → Option ℕ → Option ℕ → Type 0
IsMade f (Some x) (Some y) result = IfSome result (λ s. s ≡ f x y)
IsMade f (Some x) None result = result ≡ None
IsMade f None b result = result ≡ None

abbrev pub IsSum : Option ℕ → Option ℕ → Option ℕ → Type 0
IsSum a b result = IsMade (λ x y. x + y) a b result

abbrev pub IsProduct : Option ℕ → Option ℕ → Option ℕ → Type 0
IsProduct a b result = IsMade (λ x y. x * y) a b result

abbrev pub IsGreater : Option ℕ → Option ℕ → Option ℕ → Type 0
IsGreater a b result = IsMade (λ x y. max x y) a b result

-- a pair of ends in order, each at most 1,000,000,000 in magnitude
pub record IsSmall (pair : Pair) : Type 0 where
  pub ordered : pair.low ≤ℤ pair.high
  pub low : negsuc 999999999 ≤ℤ pair.low
  pub high : pair.high ≤ℤ pos 1000000000

-- each is one
abbrev pub AreSmall : List Pair → Type 0
AreSmall pairs = (k : ℕ) (pair : Pair) → slice_get pairs k ≡ Some pair → IsSmall pair

-- a rule whose slots are below a number, and whose numbers stay below 2^64
pub record IsSmallRule (slots : ℕ) (rule : Rule) : Type 0 where
  pub few : slot_bound rule ≤ slots
  pub small : rule_bound 1000000000 rule < 2 ^ 64

-- each is one
abbrev pub AreSmallRules : List Rule → ℕ → Type 0
AreSmallRules rules slots = (k : ℕ) (rule : Rule) → slice_get rules k ≡ Some rule → IsSmallRule slots rule
