-- What the picks of a sum have to be, and the weights of rules.
use Rattle.std.specs.Prelude.{◌≡◌, ℕ, ◌+◌, ◌*◌, ◌<◌, ◌^◌, Bool, true, ◌&&◌, if◌then◌else◌, nat_le, nat_lt, List, [], ◌∷◌, length, slice_get, Option, Some, None, ⊤, ℤ, pos}
use Rattle.std.specs.Option.{option_map_or}
use Rattle.box_eval.specs.declared.rule.Rule.{Rule}
use Rattle.box_eval.specs.declared.bounds.Pair.{Pair}
use Rattle.box_eval.specs.declared.flat.Flat.{Flat}
use Rattle.box_eval.specs.Box.{value_of}
use Rattle.linear_sums.specs.declared.pick.Pick.{Pick}
use Rattle.linear_sums.specs.Linear.{is_linear, rule_weight}

-- every pick is of a rule that is there
abbrev pub are_there : List Rule → List Pick → Bool
are_there rules [] = true
are_there rules (pick ∷ picks) = nat_lt pick.rule (length rules) && are_there rules picks

abbrev pub AllThere : List Rule → List Pick → Type 0
AllThere rules [] = ⊤
AllThere rules (pick ∷ picks) = (pick.rule < length rules) × AllThere rules picks

-- a weight, if it is at most 2^120
abbrev pub kept : ℕ → Option ℕ
kept weight = if nat_le weight (2 ^ 120) then Some weight else None

-- a rule's weight over a box, if it is linear there
abbrev pub weight_of : List Pair → Rule → Option ℕ
weight_of ends rule = if is_linear ends rule then Some (rule_weight ends rule) else None

-- the weight of the rule of this number, over the flat form's box
abbrev pub weight_in : Flat → ℕ → Option ℕ
weight_in flat number = option_map_or (weight_of flat.bounds.pairs) (slice_get flat.rules number) None

-- numbers that are all 0
abbrev pub IsClear : List ℤ → Type 0
IsClear numbers = (place : ℕ) → value_of numbers place ≡ pos 0

-- ---- the weight of a sum, pick by pick

-- what was weighed, with one pick more
abbrev pub weight_with : Flat → ℕ → Pick → Option ℕ
weight_with flat total pick = option_map_or (λ weight. kept (total + weight * pick.times)) (weight_in flat pick.rule) None

-- what was weighed, with picks; none if one isn't linear, or together they weigh too much
abbrev pub weight_from : Flat → ℕ → List Pick → Option ℕ
weight_from flat total [] = Some total
weight_from flat total (pick ∷ picks) = option_map_or (λ more. weight_from flat more picks) (weight_with flat total pick) None
