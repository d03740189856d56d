-- Worked rows of the definitions: a ring whose end is 3, and the numbers below it.
use Rattle.std.proofs.Common.{◌≡◌, true, false, [], ◌∷◌, Some, None, refl}
use Rattle.wake_ring.specs.Links.{Links, linked_before, unlinked}
use Rattle.wake_ring.specs.Order.{after_in, before_in, items_of}
use Rattle.wake_ring.specs.Queue.{is_in, without, first, rest}

-- the queue 0, 2
abbrev zero_two : Links
zero_two = record { nexts = 2 ∷ 1 ∷ 3 ∷ 0 ∷ []; prevs = 3 ∷ 1 ∷ 0 ∷ 2 ∷ [] }

zero_two_items : items_of 3 2 zero_two ≡ 0 ∷ 2 ∷ []
zero_two_items = refl

after_end : after_in 3 3 (0 ∷ 2 ∷ []) 3 ≡ 0
after_end = refl

after_two : after_in 2 3 (0 ∷ 2 ∷ []) 3 ≡ 3
after_two = refl

before_end : before_in 3 3 (0 ∷ 2 ∷ []) 3 ≡ 2
before_end = refl

-- a number that is not in the queue stands by itself
after_one : after_in 1 3 (0 ∷ 2 ∷ []) 3 ≡ 1
after_one = refl

one_pushed : linked_before 3 1 zero_two ≡ record { nexts = 2 ∷ 3 ∷ 1 ∷ 0 ∷ []; prevs = 3 ∷ 2 ∷ 0 ∷ 1 ∷ [] }
one_pushed = refl

one_pushed_items : items_of 3 3 (linked_before 3 1 zero_two) ≡ 0 ∷ 2 ∷ 1 ∷ []
one_pushed_items = refl

zero_removed : unlinked 0 zero_two ≡ record { nexts = 0 ∷ 1 ∷ 3 ∷ 2 ∷ []; prevs = 0 ∷ 1 ∷ 3 ∷ 2 ∷ [] }
zero_removed = refl

one_is_out : is_in 1 (0 ∷ 2 ∷ []) ≡ false
one_is_out = refl

two_is_in : is_in 2 (0 ∷ 2 ∷ []) ≡ true
two_is_in = refl

without_two : without 2 (0 ∷ 2 ∷ 1 ∷ []) ≡ 0 ∷ 1 ∷ []
without_two = refl

first_of_two : first (2 ∷ 1 ∷ []) ≡ Some 2
first_of_two = refl

rest_of_two : rest (2 ∷ 1 ∷ []) ≡ 1 ∷ []
rest_of_two = refl

none_first : first [] ≡ None
none_first = refl
