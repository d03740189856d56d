-- Linear rules over exactly two slots, and the list of them.
use Rattle.std.specs.Prelude.{◌≡◌, ℕ, ◌<◌, ◌≤◌, ◌*◌, ◌^◌, true, if◌then◌else◌, nat_lt, List, [], ◌∷◌, length, slice_get, Option, Some, None, MatchOption, unsigned_abs, ℤ, pos, ◌+ℤ◌, ◌*ℤ◌}
use Rattle.box_eval.specs.declared.flat.Flat.{Flat}
use Rattle.linear_sums.specs.declared.multiples.Multiples.{Multiples}
use Rattle.linear_sums.specs.declared.pick.Facing.{Facing}
use Rattle.linear_sums.specs.declared.pick.Pick.{Pick}
use Rattle.linear_sums.specs.declared.seen.Seen.{Seen}
use Rattle.linear_sums.specs.declared.seen.Seen.TheVariants.{Nothing, One, Two, More}
use Rattle.linear_sums.specs.declared.two_slots.TwoSlots.{TwoSlots}
use Rattle.linear_sums.specs.Linear.{RuleForm, form_at, is_false_sum}
use Rattle.linear_sums.specs.FacingPairs.{HasTwoSlots, IsFalseFacing}

-- the form of a rule over the flat form's box
abbrev pub form_in : Flat → ℕ → RuleForm
form_in flat number = form_at flat.bounds.pairs flat.rules number

-- ---- one rule

abbrev pub two : ℕ → ℕ → ℤ → ℕ → ℤ → TwoSlots
two rule one first other second = record { rule = rule; one = one; other = other; first = first; second = second }

abbrev pub two_in_order : ℕ → ℕ → ℤ → ℕ → ℤ → TwoSlots
two_in_order rule one first other second = if nat_lt one other then two rule one first other second else two rule other second one first

-- what is kept of a rule over the slots that were found
abbrev pub pair_in : ℕ → Seen → Option TwoSlots
pair_in rule Nothing = None
pair_in rule (One one first) = None
pair_in rule (Two one first other second) = Some (two_in_order rule one first other second)
pair_in rule More = None

-- what is kept of a linear form over exactly two slots
pub record IsTwoOf (form : RuleForm) (t : TwoSlots) : Type 0 where
  pub linear : form.linear ≡ true
  pub slots : HasTwoSlots form t.one t.other
  pub is_first : t.first ≡ form.factor t.one
  pub is_second : t.second ≡ form.factor t.other

pub record IsTwoSlots (flat : Flat) (t : TwoSlots) : Type 0 where
  pub there : t.rule < length flat.rules
  pub form : IsTwoOf (form_in flat t.rule) t

-- a form isn't linear over exactly two slots
abbrev pub NotTwo : RuleForm → Type 0
NotTwo form = form.linear ≡ true → (one other : ℕ) → HasTwoSlots form one other → ⊥

-- what is kept of a rule, if it is linear over exactly two slots
abbrev pub IsKept : Flat → ℕ → Option TwoSlots → Type 0
IsKept flat number kept = MatchOption kept (NotTwo (form_in flat number)) (λ t. IsTwoSlots flat t × (t.rule ≡ number))

-- ---- the list

-- a rule that is in the list
pub record IsIn (ts : List TwoSlots) (rule : ℕ) : Type 0 where
  pub place : ℕ
  pub entry : TwoSlots
  pub at : slice_get ts place ≡ Some entry
  pub is : entry.rule ≡ rule

-- the list of the linear rules over exactly two slots among the first so many, in order
pub record IsListed (flat : Flat) (count : ℕ) (ts : List TwoSlots) : Type 0 where
  pub each : (i : ℕ) (t : TwoSlots) → slice_get ts i ≡ Some t → IsTwoSlots flat t × (t.rule < count)
  pub all : (rule one other : ℕ) → rule < count → (form_in flat rule).linear ≡ true → HasTwoSlots (form_in flat rule) one other → IsIn ts rule
  pub ascending : (i j : ℕ) (t u : TwoSlots) → slice_get ts i ≡ Some t → slice_get ts j ≡ Some u → i < j → t.rule < u.rule

-- ---- two rules over the same slots

-- so many times the one and so many times the other have no slot left
pub record AddUp (c d : TwoSlots) (k l : ℕ) : Type 0 where
  pub at_one : pos k *ℤ c.first +ℤ pos l *ℤ d.first ≡ pos 0
  pub at_other : pos k *ℤ c.second +ℤ pos l *ℤ d.second ≡ pos 0

-- the least multiples that add up
pub record AreMultiples (c d : TwoSlots) (m : Multiples) : Type 0 where
  pub some_first : 1 ≤ m.first
  pub few_first : m.first ≤ 1000000
  pub some_second : 1 ≤ m.second
  pub few_second : m.second ≤ 1000000
  pub add_up : AddUp c d m.first m.second
  pub least : (i j : ℕ) → 1 ≤ i → AddUp c d i j → (m.first ≤ i) × (m.second ≤ j)

-- no multiples add up that are small enough
abbrev pub NoMultiples : TwoSlots → TwoSlots → Type 0
NoMultiples c d = (i j : ℕ) → 1 ≤ i → i ≤ 1000000 → j ≤ 1000000 → AddUp c d i j
    → i * unsigned_abs c.first ≤ 2 ^ 120 → i * unsigned_abs c.second ≤ 2 ^ 120 → ⊥

abbrev pub facing_of : Pick → Pick → Facing
facing_of first second = record { first = first; second = second }

-- two picks, if their sum is false
abbrev pub facing_if : Flat → Pick → Pick → Option Facing
facing_if flat first second = if is_false_sum flat (first ∷ second ∷ []) flat.bounds.pairs then Some (facing_of first second) else None

-- no sum of the two rules is false
abbrev pub NoPair : Flat → ℕ → ℕ → Type 0
NoPair flat c d = (k l : ℕ) → ¬ IsFalseFacing flat k c l d

-- the facing pair of the two rules
pub record IsPairOf (flat : Flat) (c d : ℕ) (f : Facing) : Type 0 where
  pub facing : IsFalseFacing flat f.first.times c f.second.times d
  pub is_first : f.first.rule ≡ c
  pub is_second : f.second.rule ≡ d

-- the pair of two rules, if their sum is false
abbrev pub IsPair : Flat → ℕ → ℕ → Option Facing → Type 0
IsPair flat c d found = MatchOption found (NoPair flat c d) (IsPairOf flat c d)

-- the rule at a place faces none of those after it, up to another place
abbrev pub NoPartner : Flat → List TwoSlots → ℕ → TwoSlots → ℕ → Type 0
NoPartner flat ts after c before = (j : ℕ) (d : TwoSlots) → after < j → j < before → slice_get ts j ≡ Some d → NoPair flat c.rule d.rule

-- the first that it faces
pub record HasPartner (flat : Flat) (ts : List TwoSlots) (after : ℕ) (c : TwoSlots) (f : Facing) : Type 0 where
  pub place : ℕ
  pub entry : TwoSlots
  pub later : after < place
  pub at : slice_get ts place ≡ Some entry
  pub pair : IsPairOf flat c.rule entry.rule f
  pub none : NoPartner flat ts after c place

-- the first that the rule at a place faces, if there is one
abbrev pub IsPartner : Flat → List TwoSlots → ℕ → Option Facing → Type 0
IsPartner flat ts place found = (c : TwoSlots) → slice_get ts place ≡ Some c → MatchOption found (NoPartner flat ts place c (length ts)) (HasPartner flat ts place c)

-- the rules before a place face none
abbrev pub NonePaired : Flat → List TwoSlots → ℕ → Type 0
NonePaired flat ts before = (i : ℕ) (c : TwoSlots) → i < before → slice_get ts i ≡ Some c → NoPartner flat ts i c (length ts)
