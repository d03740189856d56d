-- Factors times the values of a point, and the least of that in a box.
use Rattle.std.proofs.Common.{◌≡◌, refl, sym, ap, ◌∙◌, ℕ, suc, zero, List, [], ◌∷◌, ℤ, pos, ◌+ℤ◌, ◌-ℤ◌, ◌*ℤ◌, ◌≤ℤ◌, arith}
use Rattle.std.proofs.lemmas.Int.{ints, clamps}
use Rattle.box_eval.specs.declared.bounds.Pair.{Pair}
use Rattle.box_eval.specs.Box.{value_of, IsPointOf}
use Rattle.box_eval.proofs.Numbers.{product_between, span}
use Rattle.osc_base.proofs.Integers.{spread, assoc}
use Rattle.linear_sums.proofs.Products.{spread_left, spread_less}
use Rattle.linear_sums.specs.Linear.{factor_of, least_in}

-- the factors times the values
abbrev pub dot : (ℕ → ℤ) → List ℤ → ℤ
dot factor [] = pos 0
dot factor (v ∷ vs) = (factor 0 *ℤ v) +ℤ dot (λ slot. factor (suc slot)) vs

sum_step : (a b v p q : ℤ) → ((a +ℤ b) *ℤ v) +ℤ (p +ℤ q) ≡ ((a *ℤ v) +ℤ p) +ℤ ((b *ℤ v) +ℤ q)
sum_step a b v p q = omega (arith, ints, spread a b v)

less_step : (a b v p q : ℤ) → ((a -ℤ b) *ℤ v) +ℤ (p -ℤ q) ≡ ((a *ℤ v) +ℤ p) -ℤ ((b *ℤ v) +ℤ q)
less_step a b v p q = omega (arith, ints, spread_less a b v)

times_step : (k a v p : ℤ) → ((k *ℤ a) *ℤ v) +ℤ (k *ℤ p) ≡ k *ℤ ((a *ℤ v) +ℤ p)
times_step k a v p = ap (λ (n : ℤ). n +ℤ (k *ℤ p)) (assoc k a v) ∙ sym (spread_left k (a *ℤ v) p)

zero_step : (v : ℤ) → (pos 0 *ℤ v) +ℤ pos 0 ≡ pos 0
zero_step v = omega (arith, ints)

pub dot_sum : (f g : ℕ → ℤ) (point : List ℤ) → dot (λ s. f s +ℤ g s) point ≡ dot f point +ℤ dot g point
dot_sum f g [] = refl
dot_sum f g (v ∷ vs) = ap (λ (n : ℤ). ((f 0 +ℤ g 0) *ℤ v) +ℤ n) (dot_sum (λ s. f (suc s)) (λ s. g (suc s)) vs) ∙ sum_step (f 0) (g 0) v _ _

pub dot_less : (f g : ℕ → ℤ) (point : List ℤ) → dot (λ s. f s -ℤ g s) point ≡ dot f point -ℤ dot g point
dot_less f g [] = refl
dot_less f g (v ∷ vs) = ap (λ (n : ℤ). ((f 0 -ℤ g 0) *ℤ v) +ℤ n) (dot_less (λ s. f (suc s)) (λ s. g (suc s)) vs) ∙ less_step (f 0) (g 0) v _ _

pub dot_times : (k : ℤ) (f : ℕ → ℤ) (point : List ℤ) → dot (λ s. k *ℤ f s) point ≡ k *ℤ dot f point
dot_times k f [] = omega (arith, ints)
dot_times k f (v ∷ vs) = ap (λ (n : ℤ). ((k *ℤ f 0) *ℤ v) +ℤ n) (dot_times k (λ s. f (suc s)) vs) ∙ times_step k (f 0) v _

pub dot_none : (f : ℕ → ℤ) (point : List ℤ) → ((s : ℕ) → f s ≡ pos 0) → dot f point ≡ pos 0
dot_none f [] none = refl
dot_none f (v ∷ vs) none = ap (λ (n : ℤ). (f 0 *ℤ v) +ℤ n) (dot_none (λ s. f (suc s)) vs (λ s. none (suc s))) ∙ ap (λ (n : ℤ). (n *ℤ v) +ℤ pos 0) (none 0) ∙ zero_step v

pub dot_same : (f g : ℕ → ℤ) (point : List ℤ) → ((s : ℕ) → f s ≡ g s) → dot f point ≡ dot g point
dot_same f g [] same = refl
dot_same f g (v ∷ vs) same = ap (λ (n : ℤ). (f 0 *ℤ v) +ℤ n) (dot_same (λ s. f (suc s)) (λ s. g (suc s)) vs (λ s. same (suc s))) ∙ ap (λ (n : ℤ). (n *ℤ v) +ℤ dot (λ s. g (suc s)) vs) (same 0)

factor_next : (slot s : ℕ) → factor_of (suc slot) (suc s) ≡ factor_of slot s
factor_next slot s = grind arith

factor_later : (s : ℕ) → factor_of 0 (suc s) ≡ pos 0
factor_later s = grind arith

factor_first : (slot : ℕ) → factor_of (suc slot) 0 ≡ pos 0
factor_first slot = grind arith

one_step : (v : ℤ) → (pos 1 *ℤ v) +ℤ pos 0 ≡ v
one_step v = omega (arith, ints)

none_step : (v n : ℤ) → (pos 0 *ℤ v) +ℤ n ≡ n
none_step v n = omega (arith, ints)

pub dot_one : (slot : ℕ) (point : List ℤ) → dot (factor_of slot) point ≡ value_of point slot
dot_one slot [] = refl
dot_one zero (v ∷ vs) = ap (λ (n : ℤ). (pos 1 *ℤ v) +ℤ n) (dot_none (λ s. factor_of 0 (suc s)) vs factor_later) ∙ one_step v
dot_one (suc slot) (v ∷ vs) = ap (λ (n : ℤ). (n *ℤ v) +ℤ dot (λ s. factor_of (suc slot) (suc s)) vs) (factor_first slot)
    ∙ none_step v _ ∙ dot_same (λ s. factor_of (suc slot) (suc s)) (factor_of slot) vs (factor_next slot) ∙ dot_one slot vs

-- ---- the least value

next_point : (p : Pair) (ps : List Pair) (v : ℤ) (vs : List ℤ) → IsPointOf (p ∷ ps) (v ∷ vs) → IsPointOf ps vs
next_point p ps v vs is = record { as_long = omega (arith, is.as_long); above = λ slot. is.above (suc slot); below = λ slot. is.below (suc slot) }

no_shorter : (p : Pair) (ps : List Pair) → IsPointOf (p ∷ ps) [] → ⊥
no_shorter p ps is = omega (arith, is.as_long)

no_longer : (v : ℤ) (vs : List ℤ) → IsPointOf [] (v ∷ vs) → ⊥
no_longer v vs is = omega (arith, is.as_long)

least_step : (f l h v m d : ℤ) → l ≤ℤ v → v ≤ℤ h → m ≤ℤ d → (least_in (λ s. f) (record { low = l; high = h } ∷ []) +ℤ m) ≤ℤ ((f *ℤ v) +ℤ d)
least_step f l h v m d p q r =
    let b = product_between (span f f) (span l h) f v (omega (arith, ints)) (omega (arith, ints)) p q in
    omega (arith, ints, clamps, b.0, r)

-- at each point of a box the factors times the values are at least the least value there
pub least_below : (f : ℕ → ℤ) (ends : List Pair) (point : List ℤ) → IsPointOf ends point → least_in f ends ≤ℤ dot f point
least_below f [] [] is = omega (arith, ints)
least_below f (p ∷ ps) [] is = absurd (no_shorter p ps is)
least_below f [] (v ∷ vs) is = absurd (no_longer v vs is)
least_below f (p ∷ ps) (v ∷ vs) is =
    let rest = least_below (λ s. f (suc s)) ps vs (next_point p ps v vs is) in
    omega (arith, ints, clamps, least_step (f 0) p.low p.high v _ _ (is.above 0) (is.below 0) rest)
