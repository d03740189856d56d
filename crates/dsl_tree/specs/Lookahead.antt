-- Whether one token tells which rule goes on (two at the beginning of arguments): the test `is_predictive` of the lists
-- of each part, which `proofs/Checked.antt` computes.
use Rattle.std.specs.Prelude.{ℕ, ◌+◌, nat_le, List, [], ◌∷◌, ◌++◌, Bool, true, false, cond, not, ◌&&◌, ◌||◌}
use Rattle.dsl_tree.specs.Codes.{has}
use Rattle.dsl_tree.specs.Grammar.{Part, Symbol, Seen, Bare, Of, rules}
pub use Rattle.dsl_tree.specs.PartLists.{first, empty, goes_on, second}

-- What rows of symbols may begin with, and what they may go on with

abbrev pub firsts : List Symbol → List ℕ
firsts [] = []
firsts (Seen codes ∷ ss) = codes
firsts (Bare codes ∷ ss) = codes
firsts (Of p ∷ ss) = cond (empty p) (first p ++ firsts ss) (first p)

abbrev pub empties : List Symbol → Bool
empties [] = true
empties (Seen codes ∷ ss) = false
empties (Bare codes ∷ ss) = false
empties (Of p ∷ ss) = empty p && empties ss

-- the codes that may not stand after a whole row, since a longer one would go on with them
abbrev pub stops : List Symbol → List ℕ
stops [] = []
stops (Seen codes ∷ ss) = stops ss
stops (Bare codes ∷ ss) = stops ss
stops (Of p ∷ ss) = cond (empties ss) (goes_on p ++ stops ss) (stops ss)

abbrev pub seconds : List Symbol → List ℕ
seconds [] = []
seconds (Seen codes ∷ ss) = firsts ss
seconds (Bare codes ∷ ss) = firsts ss
seconds (Of p ∷ ss) = (second p ++ firsts ss) ++ cond (empty p) (seconds ss) []

-- a number of tokens that each forest of the row has at least
abbrev pub least : List Symbol → ℕ
least [] = 0
least (Seen codes ∷ ss) = 1 + least ss
least (Bare codes ∷ ss) = 1 + least ss
least (Of p ∷ ss) = cond (empty p) 0 1 + least ss

-- The test

abbrev pub subset : List ℕ → List ℕ → Bool
subset [] ys = true
subset (x ∷ xs) ys = has ys x && subset xs ys

abbrev pub apart : List ℕ → List ℕ → Bool
apart [] ys = true
apart (x ∷ xs) ys = not (has ys x) && apart xs ys

-- no part of the row goes on with what may stand after it there
abbrev pub sound : List Symbol → Bool
sound [] = true
sound (Seen codes ∷ ss) = sound ss
sound (Bare codes ∷ ss) = sound ss
sound (Of p ∷ ss) = apart (firsts ss) (goes_on p) && sound ss

-- a rule is within the lists of its part
abbrev pub fits : Part → List Symbol → Bool
fits p r =
    subset (firsts r) (first p) && ((not (empties r) || empty p) && (subset (stops r) (goes_on p) && (sound r && subset (seconds r) (second p))))

abbrev pub all_fit : Part → List (List Symbol) → Bool
all_fit p [] = true
all_fit p (r ∷ rs) = fits p r && all_fit p rs

-- r begins with two tokens, and no forest of s does so
abbrev pub two_apart : List Symbol → List Symbol → Bool
two_apart (Seen codes ∷ Bare next ∷ r) s = apart next (seconds s) && nat_le 2 (least s)
two_apart _ s = false

-- one token or two tell the rules apart
abbrev pub are_told_apart : List Symbol → List Symbol → Bool
are_told_apart r s = (apart (firsts r) (firsts s) && not (empties r && empties s)) || two_apart s r

abbrev pub is_told_from : List Symbol → List (List Symbol) → Bool
is_told_from r [] = true
is_told_from r (s ∷ ss) = are_told_apart r s && is_told_from r ss

abbrev pub are_all_told_apart : List (List Symbol) → Bool
are_all_told_apart [] = true
are_all_told_apart (r ∷ rs) = is_told_from r rs && are_all_told_apart rs

abbrev pub is_predictive : Part → Bool
is_predictive p = all_fit p (rules p) && (are_all_told_apart (rules p) && (not (empty p) || subset (first p) (goes_on p)))
