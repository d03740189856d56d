-- The links of numbers: which number comes after each, and which before it.
use Rattle.std.specs.Prelude.{◌≡◌, ℕ, ◌<◌, List, length, slice_index, slice_set}

pub record Links : Type 0 where
  pub nexts : List ℕ
  pub prevs : List ℕ

abbrev pub next_at : Links → ℕ → ℕ
next_at l x = slice_index l.nexts x

abbrev pub prev_at : Links → ℕ → ℕ
prev_at l x = slice_index l.prevs x

-- each of the n numbers is linked to itself
abbrev pub IsOwn : ℕ → List ℕ → Type 0
IsOwn n xs = (length xs ≡ n) × ((x : ℕ) → x < n → slice_index xs x ≡ x)

pub record IsUnlinked (n : ℕ) (l : Links) : Type 0 where
  pub nexts : IsOwn n l.nexts
  pub prevs : IsOwn n l.prevs

-- the number i is put between `end` and the number before it
abbrev pub linked_before : ℕ → ℕ → Links → Links
linked_before end i l =
    let last = prev_at l end in
    record { nexts = slice_set (slice_set l.nexts last i) i end; prevs = slice_set (slice_set l.prevs end i) i last }

-- the numbers beside i are linked to each other, and i to itself
abbrev pub unlinked : ℕ → Links → Links
unlinked i l =
    let before = prev_at l i in let after = next_at l i in
    record { nexts = slice_set (slice_set l.nexts before after) i i; prevs = slice_set (slice_set l.prevs after before) i i }
