-- What readers of parts of the grammar ensure: what was read, or where and why no reading goes on.
use Rattle.std.specs.Prelude.{◌≡◌, ℕ, List, [], ◌∷◌, ◌++◌, length, Bool, true, false, cond, ◌&&◌}
use Rattle.dsl_tree.specs.declared.token.Token.{Token}
use Rattle.dsl_tree.specs.Codes.{code, has}
use Rattle.dsl_tree.specs.Grammar.{Part, Symbol, Seen, Bare, Of, rules}
use Rattle.dsl_tree.specs.Forest.{Forest, nil, seen, bare, sub, wrong, Spells, AnyRule, Follows, IsOf}
use Rattle.dsl_tree.specs.Lookahead.{first, goes_on, stops}

-- whether the first token has one of these codes
abbrev pub starts : List ℕ → List Token → Bool
starts [] tokens = false
starts (c ∷ cs) [] = false
starts (c ∷ cs) (t ∷ ts) = has (c ∷ cs) (code t.kind)

abbrev pub Starts : List ℕ → List Token → Type 0
Starts cs tokens = starts cs tokens ≡ true

abbrev pub Stops : List ℕ → List Token → Type 0
Stops cs tokens = starts cs tokens ≡ false

-- whether a forest has no token
abbrev pub void : Forest → Bool
void nil = true
void (seen place kind f) = false
void (bare kind f) = false
void (sub part f) = void part && void f
void wrong = false

-- the forest follows the rule, and goes on as far as it can before `rest`: no part that is left empty
-- could take the first token of what is left after it
abbrev pub Whole : Forest → List Symbol → List Token → Type 0
Whole nil [] rest = Unit {0}
Whole (seen place kind f) (Seen codes ∷ rule) rest = (has codes (code kind) ≡ true) × Whole f rule rest
Whole (bare kind f) (Bare codes ∷ rule) rest = (has codes (code kind) ≡ true) × Whole f rule rest
Whole (sub part f) (Of p ∷ rule) rest =
    AnyRule (rules p) (λ r. Whole part r (cond (void f) rest [])) × Stops (cond (void part) (first p) []) (cond (void f) rest []) × Whole f rule rest
Whole _ _ _ = ⊥

-- a forest of the part was read, and these tokens are left
pub record Parsed (p : Part) (f : Forest) (tokens rest : List Token) : Type 0 where
  pub whole : AnyRule (rules p) (λ r. Whole f r rest)
  pub stop : Stops (cond (void f) (first p) []) rest
  pub spells : Spells f tokens rest

-- a forest of what is left of a rule was read
pub record Built (rule : List Symbol) (f : Forest) (tokens rest : List Token) : Type 0 where
  pub whole : Whole f rule rest
  pub spells : Spells f tokens rest

-- a token with one of these codes was read; or the first of the tokens, `left` in number, has none of them
pub record Taken (codes : List ℕ) (tokens : List Token) (token : Token) (rest : List Token) : Type 0 where
  pub split : tokens ≡ token ∷ rest
  pub fits : has codes (code token.kind) ≡ true

pub record NotTaken (codes : List ℕ) (tokens : List Token) (left : ℕ) : Type 0 where
  pub token : Token
  pub back : List Token
  pub split : tokens ≡ token ∷ back
  pub count : left ≡ length (token ∷ back)
  pub misfits : has codes (code token.kind) ≡ false

-- some forest that does is spelled by tokens that begin with these
pub record CanBegin (Does : Forest → Type 0) (front : List Token) : Type 0 where
  pub forest : Forest
  pub back : List Token
  pub does : Does forest
  pub spells : Spells forest (front ++ back) []

-- No forest of the part goes on at the token that has `left` tokens from it to the end, and some forest
-- goes as far as that.
pub record PartFault (p : Part) (tokens : List Token) (left : ℕ) : Type 0 where
  pub front : List Token
  pub token : Token
  pub back : List Token
  pub split : tokens ≡ front ++ token ∷ back
  pub count : left ≡ length (token ∷ back)
  pub viable : CanBegin (IsOf p) front
  pub dead : (f : Forest) (others rest : List Token) → IsOf p f → Stops (goes_on p) rest → Spells f (front ++ token ∷ others) rest → ⊥

-- No forest of what is left of a rule goes on at the token that has `left` tokens from it to the end.
-- Some such forest goes as far as that.
pub record RowFault (rule : List Symbol) (tokens : List Token) (left : ℕ) : Type 0 where
  pub front : List Token
  pub token : Token
  pub back : List Token
  pub split : tokens ≡ front ++ token ∷ back
  pub count : left ≡ length (token ∷ back)
  pub viable : CanBegin (λ f. Follows f rule) front
  pub dead : (f : Forest) (others rest : List Token) → Follows f rule → Stops (stops rule) rest → Spells f (front ++ token ∷ others) rest → ⊥
