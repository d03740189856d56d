-- How many rules and copied tokens constraints have.
use Rattle.std.specs.Prelude.{ℕ, ◌+◌, List}
use Rattle.program_texts.specs.composition.Givens.{Given}
use Rattle.program_texts.specs.expansion_laws.Counts.{total, given_rules, given_tokens}
use Rattle.program_texts.specs.scene_texts.Capped.{capped}
use Rattle.work_counts.specs.declared.tally.Tally.{Tally}

pub record Amount : Type 0 where
  pub rules : ℕ
  pub tokens : ℕ

-- of none
abbrev pub no_amount : Amount
no_amount = record { rules = 0; tokens = 0 }

-- of both
abbrev pub plus : Amount → Amount → Amount
plus a b = record { rules = a.rules + b.rules; tokens = a.tokens + b.tokens }

-- of each of some things
abbrev pub sum_of : {X : Type 0} → (X → Amount) → List X → Amount
sum_of amount xs = record { rules = total (λ x. (amount x).rules) xs; tokens = total (λ x. (amount x).tokens) xs }

-- of some constraints
abbrev pub amount_of : List Given → Amount
amount_of gs = record { rules = total given_rules gs; tokens = total given_tokens gs }

-- as the program keeps it
abbrev pub kept : Amount → Tally
kept a = record { rules = capped a.rules; tokens = capped a.tokens }
