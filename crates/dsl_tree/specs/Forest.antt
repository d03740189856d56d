-- Forests: what a tree is written as, before it is a list of tokens.
use Rattle.std.specs.Prelude.{◌≡◌, ◌⊎◌, List, [], ◌∷◌, true}
use Rattle.osc_base.specs.declared.fault.Place.{Place}
use Rattle.dsl_tree.specs.declared.token.TokenKind.{TokenKind}
use Rattle.dsl_tree.specs.declared.token.Token.{Token}
use Rattle.dsl_tree.specs.Codes.{code, has}
use Rattle.dsl_tree.specs.Grammar.{Part, Symbol, rules, Seen, Bare, Of}

-- A row of tokens and parts: `seen` is a token whose place the tree holds, `bare` one whose place it
-- doesn't hold, and `sub` a part. Each comes with what stands after it. `wrong` stands where a tree breaks
-- the grammar in a way that its tokens wouldn't show, such as an empty row.
pub data Forest : Type 0 where
  nil : Forest
  seen : (place : Place) (kind : TokenKind) (rest : Forest) → Forest
  bare : (kind : TokenKind) (rest : Forest) → Forest
  sub : (part rest : Forest) → Forest
  wrong : Forest

-- the tokens begin with those of the forest, and `rest` is left after them
abbrev pub Spells : Forest → List Token → List Token → Type 0
Spells nil tokens rest = tokens ≡ rest
Spells (seen place kind f) [] rest = ⊥
Spells (seen place kind f) (t ∷ ts) rest = (t.place ≡ place) × (t.kind ≡ kind) × Spells f ts rest
Spells (bare kind f) [] rest = ⊥
Spells (bare kind f) (t ∷ ts) rest = (t.kind ≡ kind) × Spells f ts rest
Spells (sub part f) tokens rest = (middle : List Token) × Spells part tokens middle × Spells f middle rest
Spells wrong tokens rest = ⊥

-- some rule of a list does
abbrev pub AnyRule : List (List Symbol) → (List Symbol → Type 0) → Type 0
AnyRule [] Does = ⊥
AnyRule (rule ∷ others) Does = Does rule ⊎ AnyRule others Does

-- the forest follows a rule: token by token, and each of its parts follows a rule of that part
abbrev pub Follows : Forest → List Symbol → Type 0
Follows nil [] = Unit {0}
Follows (seen place kind f) (Seen codes ∷ rule) = (has codes (code kind) ≡ true) × Follows f rule
Follows (bare kind f) (Bare codes ∷ rule) = (has codes (code kind) ≡ true) × Follows f rule
Follows (sub part f) (Of p ∷ rule) = AnyRule (rules p) (Follows part) × Follows f rule
Follows _ _ = ⊥

-- the forest is one of a part
abbrev pub IsOf : Part → Forest → Type 0
IsOf p f = AnyRule (rules p) (Follows f)
