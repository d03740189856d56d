-- The slots of a form that have a factor other than 0, found one after the other.
use Rattle.std.specs.Prelude.{◌≡◌, ◌≢◌, ℕ, List, length, ℤ, pos}
use Rattle.box_eval.specs.Box.{value_of}
use Rattle.linear_sums.specs.declared.seen.Seen.{Seen}
use Rattle.linear_sums.specs.declared.seen.Seen.TheVariants.{Nothing, One, Two, More}

-- what was found, with one slot more
abbrev pub seen_with : Seen → ℕ → ℤ → Seen
seen_with Nothing slot factor = One slot factor
seen_with (One one first) slot factor = Two one first slot factor
seen_with (Two one first other second) slot factor = More
seen_with More slot factor = More

-- one slot was found: the numbers that are left are the factors of the others
pub record SplitsOne (factor left : ℕ → ℤ) (one : ℕ) (first : ℤ) : Type 0 where
  pub is_first : first ≡ factor one
  pub some_first : first ≢ pos 0
  pub clear_first : left one ≡ pos 0
  pub others : (slot : ℕ) → slot ≢ one → left slot ≡ factor slot

-- two slots were found
pub record SplitsTwo (factor left : ℕ → ℤ) (one : ℕ) (first : ℤ) (other : ℕ) (second : ℤ) : Type 0 where
  pub apart : one ≢ other
  pub is_first : first ≡ factor one
  pub is_second : second ≡ factor other
  pub some_first : first ≢ pos 0
  pub some_second : second ≢ pos 0
  pub clear_first : left one ≡ pos 0
  pub clear_second : left other ≡ pos 0
  pub others : (slot : ℕ) → slot ≢ one → slot ≢ other → left slot ≡ factor slot

-- no two slots are all that have a factor
abbrev pub NoTwo : (ℕ → ℤ) → Type 0
NoTwo factor = (one other : ℕ) → ((slot : ℕ) → slot ≢ one → slot ≢ other → factor slot ≡ pos 0) → ⊥

-- what was found of the factors of slots, if these numbers are left
abbrev pub Splits : (ℕ → ℤ) → (ℕ → ℤ) → Seen → Type 0
Splits factor left Nothing = (slot : ℕ) → left slot ≡ factor slot
Splits factor left (One one first) = SplitsOne factor left one first
Splits factor left (Two one first other second) = SplitsTwo factor left one first other second
Splits factor left More = NoTwo factor

-- the numbers of the slots with these factors were set to 0, and what was found is told
pub record IsSearched (old new : List ℤ) (factor : ℕ → ℤ) (before after : Seen) : Type 0 where
  pub as_long : length new ≡ length old
  pub splits : (all : ℕ → ℤ) → Splits all (value_of old) before → Splits all (value_of new) after
  pub cleared : (slot : ℕ) → factor slot ≢ pos 0 → value_of new slot ≡ pos 0
  pub stays : (slot : ℕ) → value_of old slot ≡ pos 0 → value_of new slot ≡ pos 0
