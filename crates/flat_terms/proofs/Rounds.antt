-- Rounds of joining neighbours.
use Rattle.std.proofs.Common.{◌≡◌, ℕ, zero, suc, ◌≤◌, ◌<◌, refl, sym, ap, List, [], ◌∷◌, ◌++◌, length, map, arith}
use Rattle.std.proofs.lemmas.List.{length-map}
use Rattle.box_eval.specs.FlatRules.{paired, joined_rounds, first_or, joined}

module _ {X : Type 0} (join : X → X → X) where
  pub pair_length : (row : List X) (n : ℕ) → length row ≤ suc (suc n) → length (paired join row) ≤ suc n
  pair_length [] n h = omega arith
  pair_length (x ∷ []) n h = omega arith
  pair_length (x ∷ y ∷ []) n h = omega arith
  pair_length (x ∷ y ∷ z ∷ rest) zero h = absurd (omega arith)
  pair_length (x ∷ y ∷ z ∷ rest) (suc n) h = let rec = pair_length (z ∷ rest) n (omega arith) in omega arith

  -- a row of at most one stays as it is
  short : (n : ℕ) (row : List X) → length row ≤ 1 → joined_rounds n join row ≡ row
  short zero row h = refl
  short (suc n) [] h = short n [] h
  short (suc n) (x ∷ []) h = short n (x ∷ []) h
  short (suc n) (x ∷ y ∷ rest) h = absurd (omega arith)

  -- rounds beyond the last don't count
  enough : (n m : ℕ) (row : List X) → length row ≤ suc n → length row ≤ suc m → joined_rounds n join row ≡ joined_rounds m join row
  enough zero m row h k = sym (short m row h)
  enough (suc n) zero row h k = short (suc n) row k
  enough (suc n) (suc m) row h k = enough n m (paired join row) (pair_length row n h) (pair_length row m k)

  -- a round changes nothing
  pub after_round : (none : X) (row : List X) → joined join none (paired join row) ≡ joined join none row
  after_round none [] = refl
  after_round none (x ∷ []) = refl
  after_round none (x ∷ y ∷ rest) =
      let few = pair_length (x ∷ y ∷ rest) (length rest) (omega arith) in
      ap (first_or none) (enough (length (paired join (x ∷ y ∷ rest))) (suc (length rest)) (paired join (x ∷ y ∷ rest)) (omega arith) (omega (arith, few)))

  module _ {T : Type 0} (to : T → X) where
    -- a round makes a row of more than one shorter
    pub shorter : (row pairs : List T) → map to pairs ≡ paired join (map to row) → 1 < length row → length pairs < length row
    shorter [] pairs is h = absurd (omega arith)
    shorter (x ∷ []) pairs is h = absurd (omega arith)
    shorter (x ∷ y ∷ rest) pairs is h =
        let size : length (map to pairs) ≡ length (paired join (map to (x ∷ y ∷ rest))) = ap length is in
        let few = pair_length (map to (x ∷ y ∷ rest)) (length rest) (omega (arith, length-map rest to)) in
        omega (arith, length-map pairs to, size, few)

    -- a row of at most one is its part
    pub last_one : (none : X) (row : List T) (x : T) (others : List T) → row ≡ others ++ x ∷ [] → length row ≤ 1 → to x ≡ joined join none (map to row)
    last_one none row x [] is h = sym (ap (λ r. joined join none (map to r)) is)
    last_one none row x (y ∷ ys) is h = absurd (let size : length row ≡ length ((y ∷ ys) ++ x ∷ []) = ap length is in let more = longer ys x in omega arith)
      where
        longer : (zs : List T) (z : T) → 1 ≤ length (zs ++ z ∷ [])
        longer [] z = omega arith
        longer (w ∷ ws) z = let rec = longer ws z in omega arith
