-- How a reader goes down the grammar: one token chooses the rule of a part, or two at the beginning of arguments, and
-- the rule's symbols are read one after another.
use Rattle.std.specs.Prelude.{◌≡◌, ◌≢◌, ◌+◌, ◌∷◌, ◌&&◌}
use Rattle.dsl_cursor.specs.Terms.{ℕ, zero, suc, List, [], length, drop, Bool, true, false, cond, Option, Some, None, Result, Ok, Err, Stop, At, Memory, Token, MarkKind, code, has, mark_code, si_name, factor_name, offset_name, other_name, Part, Symbol, Seen, Bare, Of, rules, name, Forest, nil, seen, bare, sub, first, firsts, empty, starts}
use Rattle.dsl_tree.specs.Grammar.{mark}

-- A forest and the tokens after it; or the token at which no reading goes on, by the number of tokens from it to the
-- end. `Memory` stands for a list that ends where a token is wanted: no list with END at its end does.
abbrev pub Outcome : Type 0
Outcome = Result (Forest × List Token) (Stop ℕ)

-- what was read, with something before it
abbrev pub onto : (Forest → Forest) → Outcome → Outcome
onto wrap (Ok x) = Ok (wrap x.0, x.1)
onto wrap (Err e) = Err e

abbrev pub and_then : Outcome → (Forest → List Token → Outcome) → Outcome
and_then (Ok x) next = next x.0 x.1
and_then (Err e) next = Err e

-- the first token, which has to have one of these codes
unfoldable pub take : List ℕ → List Token → Result (Token × List Token) (Stop ℕ)
take codes [] = Err Memory
take codes (t ∷ ts) = cond (has codes (code t.kind)) (Ok (t, ts)) (Err (At (length (t ∷ ts))))

abbrev pub after : Result (Token × List Token) (Stop ℕ) → (Token → List Token → Outcome) → Outcome
after (Ok x) next = next x.0 x.1
after (Err e) next = Err e

-- Rows of symbols, by a reader of parts

abbrev pub only_part : Forest → Forest
only_part part = sub part nil

abbrev pub in_row : (Part → List Token → Outcome) → List Symbol → List Token → Outcome
in_row R [] ts = Ok (nil, ts)
in_row R (Seen codes ∷ ss) ts = after (take codes ts) (λ t rest. onto (seen t.place t.kind) (in_row R ss rest))
in_row R (Bare codes ∷ ss) ts = after (take codes ts) (λ t rest. onto (bare t.kind) (in_row R ss rest))
in_row R (Of p ∷ []) ts = onto only_part (R p ts)
in_row R (Of p ∷ s ∷ ss) ts = and_then (R p ts) (λ part rest. onto (sub part) (in_row R (s ∷ ss) rest))

-- Parts, by a reader of the parts in them

-- The rule that begins as the tokens do: the last one, if no other does. So what it wants is what the tokens lack.
abbrev pub by_rules : (Part → List Token → Outcome) → List (List Symbol) → List Token → Outcome
by_rules R [] ts = Err Memory
by_rules R (r ∷ []) ts = in_row R r ts
by_rules R (r ∷ s ∷ rs) ts = cond (starts (firsts r) ts) (in_row R r ts) (by_rules R (s ∷ rs) ts)

-- the rule of a part that may be left out
abbrev pub optional : List (List Symbol) → List Symbol
optional ([] ∷ r ∷ []) = r
optional _ = []

abbrev pub names : List ℕ
names = si_name ∷ factor_name ∷ offset_name ∷ other_name ∷ []

abbrev pub colon : List ℕ
colon = mark_code MarkKind.Colon ∷ []

-- a name and a colon, which begin an argument with a name
unfoldable pub begins_label : List Token → Bool
begins_label (t ∷ u ∷ ts) = has names (code t.kind) && has colon (code u.kind)
begins_label _ = false

abbrev pub plain_argument : List Symbol
plain_argument = Of Part.Expr ∷ Of Part.ArgumentsTail ∷ []

abbrev pub named_rest : List Symbol
named_rest = Of Part.Expr ∷ Of Part.NamedTail ∷ []

abbrev pub named_argument : List Symbol
named_argument = name ∷ mark MarkKind.Colon ∷ named_rest

abbrev pub is_arguments : Part → Bool
is_arguments Part.Arguments = true
is_arguments _ = false

abbrev pub in_part : (Part → List Token → Outcome) → Part → List Token → Outcome
in_part R p ts =
    cond (is_arguments p) (cond (begins_label ts) (in_row R named_argument ts) (in_row R plain_argument ts))
    (cond (empty p) (cond (starts (first p) ts) (in_row R (optional (rules p)) ts) (Ok (nil, ts))) (by_rules R (rules p) ts))

-- a part that holds parts no deeper than a number
abbrev pub deep : ℕ → Part → List Token → Outcome
deep zero p ts = Err Memory
deep (suc n) p ts = in_part (deep n) p ts

-- No part begins with a hundred parts within one another, so a hundred for each token is enough.
abbrev pub room : List Token → ℕ
room [] = 100
room (t ∷ ts) = 100 + room ts

-- what the tokens have of a part
unfoldable pub read : Part → List Token → Outcome
read p ts = deep (room ts) p ts

-- the rule of a number of a part
abbrev pub numbered : List (List Symbol) → ℕ → List Symbol
numbered [] n = []
numbered (r ∷ rs) zero = r
numbered (r ∷ rs) (suc n) = numbered rs n

abbrev pub rule_at : Part → ℕ → List Symbol
rule_at p n = numbered (rules p) n

-- what is left of the rule behind some of its symbols
abbrev pub rest_at : Part → ℕ → ℕ → List Symbol
rest_at p n gone = drop gone (rule_at p n)

-- What a reader gives of what is seen of its answer: what the tokens have, if there is memory for it.
abbrev pub Gives : {A X : Type 0} → (A → X) → Result (X × List Token) (Stop ℕ) → Result A (Stop ℕ) → List Token → Type 0
Gives view outcome (Ok a) new = outcome ≡ Ok (view a, new)
Gives view outcome (Err e) new = e ≢ Memory → outcome ≡ Err e

-- a reader of a token that may be left out
abbrev pub Tries : {A : Type 0} → (A → Token) → List ℕ → List Token → Option A → List Token → Type 0
Tries view codes old (Some a) new = (starts codes old ≡ true) × (take codes old ≡ Ok (view a, new))
Tries view codes old None new = (starts codes old ≡ false) × (new ≡ old)
