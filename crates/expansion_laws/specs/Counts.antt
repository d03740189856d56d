-- How many objects, slots, rules and tokens a scene has, part by part.
use Rattle.std.specs.Prelude.{ℕ, ◌+◌, ◌*◌, ◌||◌, Bool, cond, List, [], ◌∷◌, nat_lt}
use Rattle.composition.specs.osc_base.declared.mark.Strength.{Strength}
use Rattle.composition.specs.declared.spot.ValueRange.{ValueRange}
use Rattle.composition.specs.Scenes.{Content, Spot, is_one_of}
use Rattle.composition.specs.Ranges.{has_gap}
use Rattle.composition.specs.Givens.{Given}
use Rattle.composition.specs.Expansion.{GivenModifier}
use Rattle.composition.specs.SceneFaults.{most_slots, most_rules, most_tokens}

-- the sum of what each item counts
abbrev pub total : {X : Type 0} → (X → ℕ) → List X → ℕ
total count [] = 0
total count (x ∷ xs) = count x + total count xs

-- ---- a spot

-- whether it is an object
abbrev pub content_objects : Content → ℕ
content_objects (Content.Object vehicle) = 1
content_objects (Content.Value range) = 0
content_objects (Content.Phase kind members) = 0

-- its slots, given those of a vehicle
abbrev pub content_slots : ℕ → Content → ℕ
content_slots samples (Content.Object vehicle) = cond vehicle samples 0
content_slots samples (Content.Value range) = 1
content_slots samples (Content.Phase kind members) = cond (is_one_of kind) 3 2

-- an enum with a number left out has a rule
abbrev pub range_rules : ValueRange → ℕ
range_rules (ValueRange.Between low high) = 0
range_rules (ValueRange.Among numbers) = cond (has_gap numbers) 1 0
range_rules ValueRange.Chars = 0

-- its rules, given the number of ticks from 0 to the last
abbrev pub content_rules : ℕ → Content → ℕ
content_rules ticks (Content.Object vehicle) = cond vehicle ticks 0
content_rules ticks (Content.Value range) = range_rules range
content_rules ticks (Content.Phase kind members) = 1

abbrev pub spot_objects : Spot → ℕ
spot_objects s = content_objects s.content

abbrev pub spot_slots : ℕ → Spot → ℕ
spot_slots samples s = content_slots samples s.content

abbrev pub spot_rules : ℕ → Spot → ℕ
spot_rules ticks s = content_rules ticks s.content

-- ---- a constraint

-- a `remove_default` has no rule
abbrev pub strength_rules : Strength → ℕ
strength_rules Strength.Hard = 1
strength_rules Strength.Default = 1
strength_rules Strength.Remove = 0

abbrev pub given_rules : Given → ℕ
given_rules g = strength_rules g.strength

abbrev pub given_tokens : Given → ℕ
given_tokens g = g.tokens

abbrev pub modifier_tokens : GivenModifier → ℕ
modifier_tokens m = m.tokens

-- ---- all of them

-- the slots of a vehicle, given the last tick: three at each tick
abbrev pub samples_of : ℕ → ℕ
samples_of last = 3 * (last + 1)

-- one of the numbers of objects, slots, rules and tokens passes its limit
abbrev pub is_past : ℕ → ℕ → ℕ → ℕ → Bool
is_past objects slots rules tokens = nat_lt most_slots objects || (nat_lt most_slots slots || (nat_lt most_rules rules || nat_lt most_tokens tokens))
