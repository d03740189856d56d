-- The steps of the parts whose readers read much: which of its rules is read.
use Rattle.std.proofs.Common.{◌≡◌, List}
use Rattle.dsl_cursor.specs.Words.{Token, Part, in_part, read}
use Rattle.dsl_cursor.proofs.ReadSteps.{read_step}

pub step_suffix : (ts : List Token) → read Part.Suffix ts ≡ in_part read Part.Suffix ts
step_suffix ts = read_step Part.Suffix ts

pub step_expr : (ts : List Token) → read Part.Expr ts ≡ in_part read Part.Expr ts
step_expr ts = read_step Part.Expr ts

pub step_implies_tail : (ts : List Token) → read Part.ImpliesTail ts ≡ in_part read Part.ImpliesTail ts
step_implies_tail ts = read_step Part.ImpliesTail ts

pub step_not : (ts : List Token) → read Part.Not ts ≡ in_part read Part.Not ts
step_not ts = read_step Part.Not ts

pub step_relation : (ts : List Token) → read Part.Relation ts ≡ in_part read Part.Relation ts
step_relation ts = read_step Part.Relation ts

pub step_relation_tail : (ts : List Token) → read Part.RelationTail ts ≡ in_part read Part.RelationTail ts
step_relation_tail ts = read_step Part.RelationTail ts

pub step_minus : (ts : List Token) → read Part.Minus ts ≡ in_part read Part.Minus ts
step_minus ts = read_step Part.Minus ts

pub step_postfix : (ts : List Token) → read Part.Postfix ts ≡ in_part read Part.Postfix ts
step_postfix ts = read_step Part.Postfix ts

pub step_primary : (ts : List Token) → read Part.Primary ts ≡ in_part read Part.Primary ts
step_primary ts = read_step Part.Primary ts

pub step_bracket_rest : (ts : List Token) → read Part.BracketRest ts ≡ in_part read Part.BracketRest ts
step_bracket_rest ts = read_step Part.BracketRest ts
