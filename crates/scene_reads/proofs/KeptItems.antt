-- What is left of a list, by a test of what its items stand for.
use Rattle.std.proofs.Common.{◌≡◌, Bool, true, false, cond, List, [], ◌∷◌, map, filter, refl, ap}

pub filter_seen : {X Y : Type 0} (to : X → Y) (test : Y → Bool) (xs : List X) → map to (filter (λ x. test (to x)) xs) ≡ filter test (map to xs)
filter_seen to test [] = refl
filter_seen {X} to test (x ∷ xs) = by (test (to x)) (filter_seen to test xs)
  where
    by : (b : Bool) → map to (filter (λ (y : X). test (to y)) xs) ≡ filter test (map to xs)
        → map to (cond b (x ∷ filter (λ (y : X). test (to y)) xs) (filter (λ (y : X). test (to y)) xs)) ≡ cond b (to x ∷ filter test (map to xs)) (filter test (map to xs))
    by true h = ap (λ ys. to x ∷ ys) h
    by false h = h
