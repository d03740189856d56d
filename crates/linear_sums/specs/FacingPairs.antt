-- Two linear rules over the same two slots whose sum has neither, and is false.
use Rattle.std.specs.Prelude.{◌≡◌, ◌≢◌, ◌⊎◌, ℕ, ◌<◌, ◌≤◌, true, [], ◌∷◌, pos, ◌+ℤ◌, ◌*ℤ◌}
use Rattle.box_eval.specs.declared.flat.Flat.{Flat}
use Rattle.linear_sums.specs.declared.pick.Facing.{Facing}
use Rattle.linear_sums.specs.declared.pick.Pick.{Pick}
use Rattle.linear_sums.specs.Linear.{RuleForm, form_at, is_false_sum}

-- exactly these two slots have a factor other than 0
pub record HasTwoSlots (form : RuleForm) (one other : ℕ) : Type 0 where
  pub ascending : one < other
  pub first : form.factor one ≢ pos 0
  pub second : form.factor other ≢ pos 0
  pub none_else : (slot : ℕ) → slot ≢ one → slot ≢ other → form.factor slot ≡ pos 0

-- so many times the first form and so many times the second add to 0 for each slot
pub record Cancels (a b : RuleForm) (k l : ℕ) : Type 0 where
  pub some_first : 1 ≤ k
  pub few_first : k ≤ 1000000
  pub some_second : 1 ≤ l
  pub few_second : l ≤ 1000000
  pub adds : (slot : ℕ) → (pos k *ℤ a.factor slot) +ℤ (pos l *ℤ b.factor slot) ≡ pos 0

-- two linear forms over the same two slots that cancel each other with these numbers, and with no lesser ones
pub record AreFacing (a b : RuleForm) (k l : ℕ) : Type 0 where
  pub first_linear : a.linear ≡ true
  pub second_linear : b.linear ≡ true
  pub one : ℕ
  pub other : ℕ
  pub first_slots : HasTwoSlots a one other
  pub second_slots : HasTwoSlots b one other
  pub cancel : Cancels a b k l
  pub least : (i j : ℕ) → Cancels a b i j → (k ≤ i) × (l ≤ j)

-- rules c and d, of which c comes first, face each other if they are taken k and l times
pub record IsFacing (flat : Flat) (k c l d : ℕ) : Type 0 where
  pub before : c < d
  pub facing : AreFacing (form_at flat.bounds.pairs flat.rules c) (form_at flat.bounds.pairs flat.rules d) k l

-- a pick by its numbers
abbrev pub pick_of : ℕ → ℕ → Pick
pick_of times rule = record { times = times; rule = rule }

-- and their sum is false on the flat form's box
pub record IsFalseFacing (flat : Flat) (k c l d : ℕ) : Type 0 where
  pub faces : IsFacing flat k c l d
  pub false_sum : is_false_sum flat (pick_of k c ∷ pick_of l d ∷ []) flat.bounds.pairs ≡ true

abbrev pub NoneFacing : Flat → Type 0
NoneFacing flat = (k c l d : ℕ) → ¬ IsFalseFacing flat k c l d

-- no facing pair with a false sum has a lesser first rule, or this first rule and a lesser second
abbrev pub NoneBefore : Flat → ℕ → ℕ → Type 0
NoneBefore flat c d = (i a j b : ℕ) → IsFalseFacing flat i a j b → (c < a) ⊎ ((c ≡ a) × (d ≤ b))

-- the first facing pair whose sum is false
pub record IsFirstFacing (flat : Flat) (f : Facing) : Type 0 where
  pub facing : IsFalseFacing flat f.first.times f.first.rule f.second.times f.second.rule
  pub none_before : NoneBefore flat f.first.rule f.second.rule
