-- Factors added to the numbers of the slots.
use Rattle.std.proofs.Common.{◌≡◌, refl, sym, ap, ap₂, ◌∙◌, ℕ, zero, suc, ◌+◌, ◌*◌, ◌≤◌, ◌<◌, ◌^◌, if◌then◌else◌, Bool, true, false, nat_eq, List, [], ◌∷◌, length, slice_index_or, slice_set, length-set, ℤ, pos, ◌+ℤ◌, ◌-ℤ◌, ◌*ℤ◌, FitsSigned, to_z, of_z, arith}
use Rattle.std.specs.Prelude.{unsigned_abs}
use Rattle.std.specs.Int.{w128}
use Rattle.std.proofs.lemmas.Int.{ints}
use Rattle.std.proofs.Math.Nat.{mul-le-mul_left, mul-le-mul_right}
use Rattle.osc_base.proofs.Integers.{assoc}
use Rattle.box_eval.specs.Box.{value_of}
use Rattle.linear_sums.specs.Linear.{factor_of}
use Rattle.linear_sums.specs.Steps.{HasRoom, IsAdded}
use Rattle.linear_sums.proofs.Products.{spread_left, spread_less_left, spread_less, product_within}

-- ---- one slot

pub set_other : (sums : List ℤ) (slot place : ℕ) (v : ℤ) → nat_eq slot place ≡ false → value_of (slice_set sums slot v) place ≡ value_of sums place
set_other [] slot place v e = refl
set_other (x ∷ xs) zero zero v e = absurd (grind arith)
set_other (x ∷ xs) zero (suc place) v e = refl
set_other (x ∷ xs) (suc slot) zero v e = refl
set_other (x ∷ xs) (suc slot) (suc place) v e = set_other xs slot place v (grind arith)

pub set_there : (sums : List ℤ) (slot place : ℕ) (v : ℤ) → slot < length sums → nat_eq slot place ≡ true → value_of (slice_set sums slot v) place ≡ v
set_there [] slot place v h e = absurd (omega arith)
set_there (x ∷ xs) zero zero v h e = refl
set_there (x ∷ xs) zero (suc place) v h e = absurd (grind arith)
set_there (x ∷ xs) (suc slot) zero v h e = absurd (grind arith)
set_there (x ∷ xs) (suc slot) (suc place) v h e = set_there xs slot place v (omega (arith, h)) (grind arith)

pub index_value : (sums : List ℤ) (slot : ℕ) → slice_index_or sums slot (pos 0) ≡ value_of sums slot
index_value [] slot = refl
index_value (x ∷ xs) zero = refl
index_value (x ∷ xs) (suc slot) = index_value xs slot

add_step : (same : Bool) (old new number : ℤ) → (same ≡ true → new ≡ old +ℤ number) → (same ≡ false → new ≡ old) → new ≡ old +ℤ number *ℤ (if same then pos 1 else pos 0)
add_step true old new number there other = omega (arith, ints, there refl)
add_step false old new number there other = omega (arith, ints, other refl)

value_same : (sums : List ℤ) (slot place : ℕ) → nat_eq slot place ≡ true → value_of sums slot ≡ value_of sums place
value_same sums slot place e = let same : slot ≡ place = grind arith in ap (value_of sums) same

pub added_at : (sums : List ℤ) (slot : ℕ) (v number : ℤ) → slot < length sums → v ≡ value_of sums slot +ℤ number → IsAdded sums (slice_set sums slot v) number (factor_of slot)
added_at sums slot v number there is = record {
  as_long = length-set sums slot v;
  at = λ place. add_step (nat_eq slot place) (value_of sums place) (value_of (slice_set sums slot v) place) number
      (λ e. set_there sums slot place v there e ∙ is ∙ ap (λ (n : ℤ). n +ℤ number) (value_same sums slot place e))
      (λ e. set_other sums slot place v e);
}

-- ---- two parts

more_times : (k w v n : ℕ) → n ≡ w + v → k * n ≡ k * w + k * v
more_times k w v n e = ap (λ m. k * m) e ∙ omega arith

room_step : (o m k l f : ℤ) (w v n : ℕ) → m ≡ o +ℤ k *ℤ f → unsigned_abs f ≤ w → unsigned_abs o + unsigned_abs k * n ≤ 2 ^ 121 → n ≡ w + v → unsigned_abs l ≡ unsigned_abs k
    → unsigned_abs m + unsigned_abs l * v ≤ 2 ^ 121
room_step o m k l f w v n is small room e same =
    let p = product_within k f (unsigned_abs k) w (omega arith) small in
    let q : unsigned_abs l * v ≡ unsigned_abs k * v = ap (λ m. m * v) same in
    let s : unsigned_abs m ≤ unsigned_abs o + unsigned_abs (k *ℤ f) = omega (arith, ints, is) in
    omega (arith, p, q, s, room, more_times (unsigned_abs k) w v n e)

-- after the factors of one part there is room for those of the other
pub room_after : (old mid : List ℤ) (k l : ℤ) (f : ℕ → ℤ) (w v n : ℕ) → IsAdded old mid k f → ((slot : ℕ) → unsigned_abs (f slot) ≤ w)
    → HasRoom old (unsigned_abs k * n) → n ≡ w + v → unsigned_abs l ≡ unsigned_abs k → HasRoom mid (unsigned_abs l * v)
room_after old mid k l f w v n added small room e same = λ slot.
    room_step (value_of old slot) (value_of mid slot) k l (f slot) w v n (added.at slot) (small slot) (room slot) e same

pub room_before : (old : List ℤ) (k l : ℤ) (w v n : ℕ) → HasRoom old (unsigned_abs k * n) → n ≡ w + v → unsigned_abs l ≡ unsigned_abs k → HasRoom old (unsigned_abs l * w)
room_before old k l w v n room e same = λ slot.
    let q : unsigned_abs l * w ≡ unsigned_abs k * w = ap (λ m. m * w) same in
    omega (arith, room slot, q, more_times (unsigned_abs k) w v n e)

sum_at : (o m n k l f g : ℤ) → m ≡ o +ℤ k *ℤ f → n ≡ m +ℤ l *ℤ g → l ≡ k → n ≡ o +ℤ k *ℤ (f +ℤ g)
sum_at o m n k l f g e h same =
    let q : l *ℤ g ≡ k *ℤ g = ap (λ m. m *ℤ g) same in
    omega (arith, ints, e, h, q, spread_left k f g)

less_at : (o m n k l f g : ℤ) → m ≡ o +ℤ k *ℤ f → n ≡ m +ℤ l *ℤ g → l ≡ pos 0 -ℤ k → n ≡ o +ℤ k *ℤ (f -ℤ g)
less_at o m n k l f g e h same =
    let q : l *ℤ g ≡ (pos 0 -ℤ k) *ℤ g = ap (λ m. m *ℤ g) same in
    omega (arith, ints, e, h, q, spread_less_left k f g, spread_less (pos 0) k g)

module _ (old mid new : List ℤ) (k j l : ℤ) (f g : ℕ → ℤ) (one : IsAdded old mid j f) (other : IsAdded mid new l g) (first : j ≡ k) where
  pub added_sum : l ≡ k → IsAdded old new k (λ slot. f slot +ℤ g slot)
  added_sum same = record {
    as_long = other.as_long ∙ one.as_long;
    at = λ slot. sum_at (value_of old slot) (value_of mid slot) (value_of new slot) k l (f slot) (g slot) (one.at slot ∙ ap (λ (n : ℤ). value_of old slot +ℤ n *ℤ f slot) first) (other.at slot) same;
  }

  pub added_less : l ≡ pos 0 -ℤ k → IsAdded old new k (λ slot. f slot -ℤ g slot)
  added_less same = record {
    as_long = other.as_long ∙ one.as_long;
    at = λ slot. less_at (value_of old slot) (value_of mid slot) (value_of new slot) k l (f slot) (g slot) (one.at slot ∙ ap (λ (n : ℤ). value_of old slot +ℤ n *ℤ f slot) first) (other.at slot) same;
  }

-- ---- products

abs_times : (k c l : ℤ) (w v n : ℕ) → l ≡ k *ℤ c → unsigned_abs c ≤ w → n ≡ w * v → unsigned_abs l * v ≤ unsigned_abs k * n
abs_times k c l w v n is small e =
    let p : unsigned_abs l ≤ unsigned_abs k * w = omega (arith, ap unsigned_abs is, product_within k c (unsigned_abs k) w (omega arith) small) in
    let q = mul-le-mul_right v p in
    let r : unsigned_abs k * n ≡ (unsigned_abs k * w) * v = ap (λ m. unsigned_abs k * m) e ∙ omega arith in
    omega (arith, q, r)

-- room for a product is room for its second factor, taken so many times more
pub room_times : (old : List ℤ) (k c l : ℤ) (w v n : ℕ) → l ≡ k *ℤ c → unsigned_abs c ≤ w → n ≡ w * v → HasRoom old (unsigned_abs k * n) → HasRoom old (unsigned_abs l * v)
room_times old k c l w v n is small e room = λ slot. omega (arith, room slot, abs_times k c l w v n is small e)

some_more : (m v : ℕ) → 1 ≤ v → m ≤ m * v
some_more m v h = omega (arith, mul-le-mul_left m h)

pub fits_times : (old : List ℤ) (k c : ℤ) (w v n : ℕ) → unsigned_abs c ≤ w → n ≡ w * v → 1 ≤ v → HasRoom old (unsigned_abs k * n) → FitsSigned w128 (k *ℤ c)
fits_times old k c w v n small e one room =
    let p = abs_times k c (k *ℤ c) w v n refl small e in
    let q = some_more (unsigned_abs (k *ℤ c)) v one in
    let r : unsigned_abs (k *ℤ c) ≤ 2 ^ 121 = omega (arith, p, q, room 0) in
    omega (arith, ints, r)

pub fits_less : (old : List ℤ) (k : ℤ) (n : ℕ) → 1 ≤ n → HasRoom old (unsigned_abs k * n) → FitsSigned w128 (pos 0 -ℤ k)
fits_less old k n one room =
    let q = some_more (unsigned_abs k) n one in
    let r : unsigned_abs k ≤ 2 ^ 121 = omega (arith, q, room 0) in
    omega (arith, ints, r)

pub added_times : (old new : List ℤ) (k c l : ℤ) (g h : ℕ → ℤ) → IsAdded old new l g → l ≡ k *ℤ c → ((slot : ℕ) → h slot ≡ c *ℤ g slot) → IsAdded old new k h
added_times old new k c l g h added is same = record {
  as_long = added.as_long;
  at = λ slot. added.at slot ∙ ap (λ (n : ℤ). value_of old slot +ℤ n) (ap (λ (n : ℤ). n *ℤ g slot) is ∙ assoc k c (g slot) ∙ ap (λ (n : ℤ). k *ℤ n) (sym (same slot)));
}

-- a product in 128 bits
pub wrapped_product : (k l c d : ℤ) → l ≡ k → d ≡ c → FitsSigned w128 (k *ℤ c) → to_z w128 (of_z w128 (l *ℤ d)) ≡ k *ℤ c
wrapped_product k l c d e f fits = ap₂ (λ (m n : ℤ). to_z w128 (of_z w128 (m *ℤ n))) e f ∙ omega (arith, ints, fits)

-- the negation in 128 bits
pub wrapped_less : (k l : ℤ) → l ≡ k → FitsSigned w128 (pos 0 -ℤ k) → to_z w128 (of_z w128 (pos 0 -ℤ l)) ≡ pos 0 -ℤ k
wrapped_less k l e fits = ap (λ (m : ℤ). to_z w128 (of_z w128 (pos 0 -ℤ m))) e ∙ omega (arith, ints, fits)

pub same_size : (k l : ℤ) → l ≡ pos 0 -ℤ k → unsigned_abs l ≡ unsigned_abs k
same_size k l e = omega (arith, ints)

-- the factors of a product are those of one part
pub factor_first : (fixed : Bool) (m n : ℤ) → fixed ≡ true → (if fixed then m else n) ≡ m
factor_first fixed m n e = ap (λ (b : Bool). if b then m else n) e

pub factor_second : (fixed : Bool) (m n : ℤ) → fixed ≡ false → (if fixed then m else n) ≡ n
factor_second fixed m n e = ap (λ (b : Bool). if b then m else n) e
