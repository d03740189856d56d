-- One short forest of each part, and of each row of symbols.
use Rattle.std.proofs.Common.{◌≡◌, ℕ, zero, suc, List, [], ◌∷◌, Bool, true, refl, ◌&&◌}
use Rattle.std.specs.Prelude.{codes}
use Rattle.osc_base.specs.declared.fault.Place.{Place}
use Rattle.dsl_tree.specs.declared.token.Token.{Token}
use Rattle.dsl_tree.specs.declared.token.TokenKind.{TokenKind}
use Rattle.dsl_tree.specs.Codes.{code, has}
use Rattle.dsl_tree.specs.Grammar.{Part, Symbol, Seen, Bare, Of, rules}
use Rattle.dsl_tree.specs.Forest.{Forest, nil, seen, bare, sub, wrong, Follows, IsOf, Spells}
use Rattle.dsl_tree.proofs.EachPart.{each_part}
use Rattle.dsl_tree.proofs.Tests.{Is-follows, any_rule, follows, is_whole, tokens_of, Spells-tokens_of, left_of, right_of}
use Rattle.dsl_tree.proofs.Sets.{and_both}
use Rattle.dsl_tree.proofs.Classes.{kind_of, bare_class, held}

abbrev nowhere : Place
nowhere = record { file = 0; line = 1; column = 1; token = 0 }

-- a kind of token that has the first of some codes
abbrev some_kind : List ℕ → TokenKind
some_kind [] = TokenKind.Newline
some_kind (c ∷ cs) = kind_of (bare_class c) (held (bare_class c) TokenKind.Newline)

-- whether each token of a row has such a kind
abbrev pub filled : List Symbol → Bool
filled [] = true
filled (Seen codes ∷ ss) = has codes (code (some_kind codes)) && filled ss
filled (Bare codes ∷ ss) = has codes (code (some_kind codes)) && filled ss
filled (Of p ∷ ss) = filled ss

-- the forest of a row, with a forest for each part
abbrev row_with : (Part → Forest) → List Symbol → Forest
row_with f [] = nil
row_with f (Seen codes ∷ ss) = seen nowhere (some_kind codes) (row_with f ss)
row_with f (Bare codes ∷ ss) = bare (some_kind codes) (row_with f ss)
row_with f (Of p ∷ ss) = sub (f p) (row_with f ss)

-- Each part is written by its first rule: no more than twenty parts stand within one another then.

abbrev by_first : (Part → Forest) → List (List Symbol) → Forest
by_first f [] = wrong
by_first f (r ∷ rs) = row_with f r

abbrev within : ℕ → Part → Forest
within zero p = wrong
within (suc n) p = by_first (within n) (rules p)

abbrev pub example : Part → Forest
example = within 20

pub is_example : (p : Part) → IsOf p (example p)
is_example p = Is-follows p (example p) (each_part (λ (q : Part). any_rule (rules q) (follows (example q))) refl p)

pub whole_example : (p : Part) → is_whole (example p) ≡ true
whole_example p = each_part (λ (q : Part). is_whole (example q)) refl p

abbrev pub row : List Symbol → Forest
row = row_with example

pub row_follows : (ss : List Symbol) → filled ss ≡ true → Follows (row ss) ss
row_follows [] h = tt
row_follows (Seen codes ∷ ss) h = (left_of _ (filled ss) h, row_follows ss (right_of _ (filled ss) h))
row_follows (Bare codes ∷ ss) h = (left_of _ (filled ss) h, row_follows ss (right_of _ (filled ss) h))
row_follows (Of p ∷ ss) h = (is_example p, row_follows ss h)

row_whole : (ss : List Symbol) → is_whole (row ss) ≡ true
row_whole [] = refl
row_whole (Seen codes ∷ ss) = row_whole ss
row_whole (Bare codes ∷ ss) = row_whole ss
row_whole (Of p ∷ ss) = and_both (is_whole (example p)) (is_whole (row ss)) (whole_example p) (row_whole ss)

-- the tokens of such a forest
abbrev pub tokens : Forest → List Token
tokens f = tokens_of (λ n. nowhere) f 0 []

pub row_spells : (ss : List Symbol) → Spells (row ss) (tokens (row ss)) []
row_spells ss = Spells-tokens_of (λ n. nowhere) (row ss) 0 [] (row_whole ss)

pub example_spells : (p : Part) → Spells (example p) (tokens (example p)) []
example_spells p = Spells-tokens_of (λ n. nowhere) (example p) 0 [] (whole_example p)
