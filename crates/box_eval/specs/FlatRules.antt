-- Rules and terms as definitions build and read them: plain recursion over these trees takes the place of the boxes of the program's own
-- `Rule` and `Term`.
use Rattle.std.specs.Prelude.{ℕ, zero, suc, Bool, true, cond, not, ◌&&◌, ◌||◌, nat_eq, List, [], ◌∷◌, length, ℤ, pos, ◌+ℤ◌, ◌-ℤ◌, ◌*ℤ◌, int_lt, int_le}
use Rattle.box_eval.specs.declared.rule.Rule.{Rule}
use Rattle.box_eval.specs.declared.rule.Term.{Term}
use Rattle.box_eval.specs.declared.rule.Rule.TheOpen as O
use Rattle.box_eval.specs.declared.rule.Rule.TheOpen.{Rule-F, Term-F}
use Rattle.box_eval.specs.declared.rule.Rule.TheFolds.{fold-Rule, fold-Term}
use Rattle.box_eval.specs.Box.{value_of}
use Rattle.box_eval.specs.Truth.{is_same, as_number}

mutual
  -- a number that depends on a point: a whole number, a slot, a sum, a difference, a product, or 1 if a rule is true
  pub data FlatTerm : Type 0 where
    Whole : (number : ℤ) → FlatTerm
    Slot : (slot : ℕ) → FlatTerm
    Sum : (left right : FlatTerm) → FlatTerm
    Less : (left right : FlatTerm) → FlatTerm
    Times : (left right : FlatTerm) → FlatTerm
    Truth : (rule : FlatRule) → FlatTerm

  -- a statement about a point: always true, a comparison of two terms, or made of other rules
  pub data FlatRule : Type 0 where
    Always : FlatRule
    Below : (left right : FlatTerm) → FlatRule
    AtMost : (left right : FlatTerm) → FlatRule
    Equal : (left right : FlatTerm) → FlatRule
    Differ : (left right : FlatTerm) → FlatRule
    Both : (left right : FlatRule) → FlatRule
    Either : (left right : FlatRule) → FlatRule
    Not : (part : FlatRule) → FlatRule

-- ---- the tree of a rule

-- a term from the trees of its parts
abbrev pub term_step : Term-F FlatRule FlatTerm → FlatTerm
term_step (O.Whole number) = Whole number
term_step (O.Slot slot) = Slot slot
term_step (O.Sum left right) = Sum left right
term_step (O.Less left right) = Less left right
term_step (O.Times left right) = Times left right
term_step (O.Truth rule) = Truth rule

-- a rule from the trees of its parts
abbrev pub rule_step : Rule-F FlatRule FlatTerm → FlatRule
rule_step O.Always = Always
rule_step (O.Below left right) = Below left right
rule_step (O.AtMost left right) = AtMost left right
rule_step (O.Equal left right) = Equal left right
rule_step (O.Differ left right) = Differ left right
rule_step (O.Both left right) = Both left right
rule_step (O.Either left right) = Either left right
rule_step (O.Not part) = Not part

-- the tree of a rule
abbrev pub flat_rule : Rule → FlatRule
flat_rule = fold-Rule FlatRule FlatTerm rule_step term_step

-- the tree of a term
abbrev pub flat_term : Term → FlatTerm
flat_term = fold-Term FlatRule FlatTerm rule_step term_step

-- ---- truth at a point

abbrev mutual
  -- what a term is worth at a point
  pub worth_at : List ℤ → FlatTerm → ℤ
  worth_at point (Whole number) = number
  worth_at point (Slot slot) = value_of point slot
  worth_at point (Sum left right) = worth_at point left +ℤ worth_at point right
  worth_at point (Less left right) = worth_at point left -ℤ worth_at point right
  worth_at point (Times left right) = worth_at point left *ℤ worth_at point right
  worth_at point (Truth rule) = as_number (holds_at point rule)

  -- whether a rule holds at a point
  pub holds_at : List ℤ → FlatRule → Bool
  holds_at point Always = true
  holds_at point (Below left right) = int_lt (worth_at point left) (worth_at point right)
  holds_at point (AtMost left right) = int_le (worth_at point left) (worth_at point right)
  holds_at point (Equal left right) = is_same (worth_at point left) (worth_at point right)
  holds_at point (Differ left right) = not (is_same (worth_at point left) (worth_at point right))
  holds_at point (Both left right) = holds_at point left && holds_at point right
  holds_at point (Either left right) = holds_at point left || holds_at point right
  holds_at point (Not part) = not (holds_at point part)

-- ---- rows

-- neighbours joined
abbrev pub paired : {X : Type 0} → (X → X → X) → List X → List X
paired join [] = []
paired join (x ∷ []) = x ∷ []
paired join (x ∷ y ∷ rest) = join x y ∷ paired join rest

-- so many rounds of joining neighbours
abbrev pub joined_rounds : {X : Type 0} → ℕ → (X → X → X) → List X → List X
joined_rounds zero join row = row
joined_rounds (suc rounds) join row = joined_rounds rounds join (paired join row)

-- the first of a list, or something else if there is none
abbrev pub first_or : {X : Type 0} → X → List X → X
first_or none [] = none
first_or none (x ∷ xs) = x

-- a row as one, by joining neighbours until one is left: each item then stands about equally deep
abbrev pub joined : {X : Type 0} → (X → X → X) → X → List X → X
joined join none row = first_or none (joined_rounds (length row) join row)

-- every rule of a row holds
abbrev pub all_of : List FlatRule → FlatRule
all_of row = joined Both Always row

-- some rule of a row holds
abbrev pub any_of : List FlatRule → FlatRule
any_of row = joined Either (Not Always) row

-- a rule under a row of conditions: it is asked for if all of them hold
abbrev pub under : List FlatRule → FlatRule → FlatRule
under [] rule = rule
under (first ∷ others) rule = Either (Not (all_of (first ∷ others))) rule

-- a number of times a term, and the term itself if it is once
abbrev pub times : ℕ → FlatTerm → FlatTerm
times number term = cond (nat_eq number 1) term (Times (Whole (pos number)) term)
