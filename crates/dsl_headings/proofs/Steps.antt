-- The steps of the parts whose readers read much: which of its rules is read.
use Rattle.std.proofs.Common.{◌≡◌, List}
use Rattle.dsl_cursor.specs.Words.{Token, Part, in_part, read}
use Rattle.dsl_cursor.proofs.ReadSteps.{read_step}

pub step_bases_tail : (ts : List Token) → read Part.BasesTail ts ≡ in_part read Part.BasesTail ts
step_bases_tail ts = read_step Part.BasesTail ts

pub step_unit_tail : (ts : List Token) → read Part.UnitTail ts ≡ in_part read Part.UnitTail ts
step_unit_tail ts = read_step Part.UnitTail ts

pub step_unit_more : (ts : List Token) → read Part.UnitMore ts ≡ in_part read Part.UnitMore ts
step_unit_more ts = read_step Part.UnitMore ts

pub step_heir_condition : (ts : List Token) → read Part.HeirCondition ts ≡ in_part read Part.HeirCondition ts
step_heir_condition ts = read_step Part.HeirCondition ts
