-- Tests that compute, by which a tree that is written out in full is shown to be spelled.
use Rattle.std.proofs.Common.{◌≡◌, ◌⊎◌, ℕ, ◌+◌, List, [], ◌∷◌, Bool, true, false, refl, inl, inr, ⊎_elim, ◌||◌, ◌&&◌, sym, ◌∙◌, arith}
use Rattle.std.proofs.lemmas.Bool.{false≢true}
use Rattle.osc_base.specs.declared.fault.Place.{Place}
use Rattle.dsl_tree.specs.declared.token.Token.{Token}
use Rattle.dsl_tree.specs.Codes.{code, has}
use Rattle.dsl_tree.specs.Grammar.{Part, Symbol, rules, Seen, Bare, Of}
use Rattle.dsl_tree.specs.Forest.{Forest, nil, seen, bare, sub, wrong, Spells, AnyRule, Follows, IsOf}

abbrev pub any_rule : List (List Symbol) → (List Symbol → Bool) → Bool
any_rule [] test = false
any_rule (rule ∷ others) test = test rule || any_rule others test

-- whether a forest follows a rule
abbrev pub follows : Forest → List Symbol → Bool
follows nil [] = true
follows (seen place kind f) (Seen codes ∷ rule) = has codes (code kind) && follows f rule
follows (bare kind f) (Bare codes ∷ rule) = has codes (code kind) && follows f rule
follows (sub part f) (Of p ∷ rule) = any_rule (rules p) (follows part) && follows f rule
follows _ _ = false

pub left_of : (a b : Bool) → (a && b) ≡ true → a ≡ true
left_of a b h = grind arith

pub right_of : (a b : Bool) → (a && b) ≡ true → b ≡ true
right_of a b h = grind arith

pub either_of : (a b : Bool) → (a || b) ≡ true → (a ≡ true) ⊎ (b ≡ true)
either_of true b h = inl refl
either_of false b h = inr h

AnyRule-any_rule : (rs : List (List Symbol)) (test : List Symbol → Bool) (Does : List Symbol → Type 0) → ((r : List Symbol) → test r ≡ true → Does r) → any_rule rs test ≡ true → AnyRule rs Does
AnyRule-any_rule [] test Does sound h = absurd (cc)
AnyRule-any_rule (r ∷ rs) test Does sound h = ⊎_elim (λ e. inl (sound r e)) (λ e. inr (AnyRule-any_rule rs test Does sound e)) (either_of (test r) (any_rule rs test) h)

pub Follows-follows : (f : Forest) (rule : List Symbol) → follows f rule ≡ true → Follows f rule
Follows-follows nil [] h = tt
Follows-follows (seen place kind f) (Seen codes ∷ rule) h = (left_of (has codes (code kind)) (follows f rule) h, Follows-follows f rule (right_of (has codes (code kind)) (follows f rule) h))
Follows-follows (bare kind f) (Bare codes ∷ rule) h = (left_of (has codes (code kind)) (follows f rule) h, Follows-follows f rule (right_of (has codes (code kind)) (follows f rule) h))
Follows-follows (sub part f) (Of p ∷ rule) h = (
  AnyRule-any_rule (rules p) (follows part) (Follows part) (Follows-follows part) (left_of (any_rule (rules p) (follows part)) (follows f rule) h),
  Follows-follows f rule (right_of (any_rule (rules p) (follows part)) (follows f rule) h),
)
Follows-follows _ _ h = absurd (cc)

pub Is-follows : (p : Part) (f : Forest) → any_rule (rules p) (follows f) ≡ true → IsOf p f
Is-follows p f h = AnyRule-any_rule (rules p) (follows f) (Follows f) (Follows-follows f) h

-- the number of tokens of a forest, and its tokens: those whose places it doesn't hold stand at `place`
-- of the number of tokens before them
abbrev pub count : Forest → ℕ
count nil = 0
count (seen place kind f) = count f + 1
count (bare kind f) = count f + 1
count (sub part f) = count part + count f
count wrong = 0

abbrev pub tokens_of : (ℕ → Place) → Forest → ℕ → List Token → List Token
tokens_of place nil n rest = rest
tokens_of place (seen p kind f) n rest = record { place = p; kind = kind } ∷ tokens_of place f (n + 1) rest
tokens_of place (bare kind f) n rest = record { place = place n; kind = kind } ∷ tokens_of place f (n + 1) rest
tokens_of place (sub part f) n rest = tokens_of place part n (tokens_of place f (n + count part) rest)
tokens_of place wrong n rest = rest

-- whether `wrong` stands nowhere in a forest
abbrev pub is_whole : Forest → Bool
is_whole nil = true
is_whole (seen p kind f) = is_whole f
is_whole (bare kind f) = is_whole f
is_whole (sub part f) = is_whole part && is_whole f
is_whole wrong = false

pub Spells-tokens_of : (place : ℕ → Place) (f : Forest) (n : ℕ) (rest : List Token) → is_whole f ≡ true → Spells f (tokens_of place f n rest) rest
Spells-tokens_of place nil n rest h = refl
Spells-tokens_of place (seen p kind f) n rest h = (refl, refl, Spells-tokens_of place f (n + 1) rest h)
Spells-tokens_of place (bare kind f) n rest h = (refl, Spells-tokens_of place f (n + 1) rest h)
Spells-tokens_of place (sub part f) n rest h = (
  tokens_of place f (n + count part) rest,
  Spells-tokens_of place part n (tokens_of place f (n + count part) rest) (left_of (is_whole part) (is_whole f) h),
  Spells-tokens_of place f (n + count part) rest (right_of (is_whole part) (is_whole f) h),
)
Spells-tokens_of place wrong n rest h = absurd (cc)

is_one_of : (a b : Bool) → (a ≡ true) ⊎ (b ≡ true) → (a || b) ≡ true
is_one_of true b h = refl
is_one_of false b (inl h) = absurd (false≢true h)
is_one_of false b (inr h) = h

are_both : (a b : Bool) → a ≡ true → b ≡ true → (a && b) ≡ true
are_both a b h k = grind arith

any_rule-AnyRule : (rs : List (List Symbol)) (test : List Symbol → Bool) (Does : List Symbol → Type 0) → ((r : List Symbol) → Does r → test r ≡ true) → AnyRule rs Does → any_rule rs test ≡ true
any_rule-AnyRule [] test Does sound h = absurd h
any_rule-AnyRule (r ∷ rs) test Does sound (inl does) = is_one_of (test r) (any_rule rs test) (inl (sound r does))
any_rule-AnyRule (r ∷ rs) test Does sound (inr any) = is_one_of (test r) (any_rule rs test) (inr (any_rule-AnyRule rs test Does sound any))

follows-Follows : (f : Forest) (rule : List Symbol) → Follows f rule → follows f rule ≡ true
follows-Follows nil [] h = refl
follows-Follows (seen place kind f) (Seen codes ∷ rule) (h, h') = are_both (has codes (code kind)) (follows f rule) h (follows-Follows f rule h')
follows-Follows (bare kind f) (Bare codes ∷ rule) (h, h') = are_both (has codes (code kind)) (follows f rule) h (follows-Follows f rule h')
follows-Follows (sub part f) (Of p ∷ rule) (any, h) =
    are_both (any_rule (rules p) (follows part)) (follows f rule) (any_rule-AnyRule (rules p) (follows part) (Follows part) (follows-Follows part) any) (follows-Follows f rule h)
follows-Follows _ _ h = absurd h

pub is_not : (p : Part) (f : Forest) → any_rule (rules p) (follows f) ≡ false → IsOf p f → ⊥
is_not p f h is = absurd (false≢true (sym h ∙ any_rule-AnyRule (rules p) (follows f) (Follows f) (follows-Follows f) is))
