-- Products of whole numbers: the laws of a ring, and factors above 0.
use Rattle.std.proofs.Common.{◌≡◌, ℕ, zero, suc, refl, sym, ap, ◌∙◌, arith}
use Rattle.std.specs.Prelude.{ℤ, pos, negsuc, ◌+ℤ◌, ◌-ℤ◌, ◌*ℤ◌, ◌≤ℤ◌, ◌<ℤ◌, unsigned_abs}
use Rattle.std.proofs.Math.IntN.{suc_ℤ-+ℤ, pred_ℤ-+ℤ, suc_ℤ-*ℤ, pred_ℤ-*ℤ, zero-*ℤ, *ℤ-zero, *ℤ_comm, +ℤ_idl}
use Rattle.std.proofs.lemmas.Int.{ints, by_lt_z}

-- a product over a sum
regroup_up : (x y z : ℤ) → (x +ℤ y) +ℤ z ≡ (x +ℤ z) +ℤ y
regroup_up x y z = omega (arith, ints)

spread_pos : (n : ℕ) (b c : ℤ) → (pos n +ℤ b) *ℤ c ≡ pos n *ℤ c +ℤ b *ℤ c
spread_pos zero b c = ap (λ z. z *ℤ c) (+ℤ_idl b) ∙ sym (+ℤ_idl (b *ℤ c)) ∙ ap (λ z. z +ℤ b *ℤ c) (sym (zero-*ℤ c))
spread_pos (suc n) b c = ap (λ z. z *ℤ c) (suc_ℤ-+ℤ (pos n) b) ∙ suc_ℤ-*ℤ (pos n +ℤ b) c ∙ ap (λ z. z +ℤ c) (spread_pos n b c)
    ∙ regroup_up (pos n *ℤ c) (b *ℤ c) c ∙ ap (λ z. z +ℤ b *ℤ c) (sym (suc_ℤ-*ℤ (pos n) c))

regroup_down : (x y z : ℤ) → (x +ℤ y) -ℤ z ≡ (x -ℤ z) +ℤ y
regroup_down x y z = omega (arith, ints)

spread_neg : (n : ℕ) (b c : ℤ) → (negsuc n +ℤ b) *ℤ c ≡ negsuc n *ℤ c +ℤ b *ℤ c
spread_neg zero b c = ap (λ z. z *ℤ c) (pred_ℤ-+ℤ (pos zero) b) ∙ pred_ℤ-*ℤ (pos zero +ℤ b) c ∙ ap (λ z. z -ℤ c) (spread_pos zero b c)
    ∙ regroup_down (pos zero *ℤ c) (b *ℤ c) c ∙ ap (λ z. z +ℤ b *ℤ c) (sym (pred_ℤ-*ℤ (pos zero) c))
spread_neg (suc n) b c = ap (λ z. z *ℤ c) (pred_ℤ-+ℤ (negsuc n) b) ∙ pred_ℤ-*ℤ (negsuc n +ℤ b) c ∙ ap (λ z. z -ℤ c) (spread_neg n b c)
    ∙ regroup_down (negsuc n *ℤ c) (b *ℤ c) c ∙ ap (λ z. z +ℤ b *ℤ c) (sym (pred_ℤ-*ℤ (negsuc n) c))

pub spread : (a b c : ℤ) → (a +ℤ b) *ℤ c ≡ a *ℤ c +ℤ b *ℤ c
spread (pos n) b c = spread_pos n b c
spread (negsuc n) b c = spread_neg n b c

-- a product of three
assoc_pos : (n : ℕ) (b c : ℤ) → (pos n *ℤ b) *ℤ c ≡ pos n *ℤ (b *ℤ c)
assoc_pos zero b c = ap (λ z. z *ℤ c) (zero-*ℤ b) ∙ zero-*ℤ c ∙ sym (zero-*ℤ (b *ℤ c))
assoc_pos (suc n) b c = ap (λ z. z *ℤ c) (suc_ℤ-*ℤ (pos n) b) ∙ spread (pos n *ℤ b) b c ∙ ap (λ z. z +ℤ b *ℤ c) (assoc_pos n b c) ∙ sym (suc_ℤ-*ℤ (pos n) (b *ℤ c))

spread_less : (a b c : ℤ) → (a -ℤ b) *ℤ c ≡ a *ℤ c -ℤ b *ℤ c
spread_less a b c = let e : (a -ℤ b) *ℤ c +ℤ b *ℤ c ≡ a *ℤ c = sym (spread (a -ℤ b) b c) ∙ ap (λ z. z *ℤ c) (omega (arith, ints)) in omega (arith, ints)

assoc_neg : (n : ℕ) (b c : ℤ) → (negsuc n *ℤ b) *ℤ c ≡ negsuc n *ℤ (b *ℤ c)
assoc_neg zero b c = ap (λ z. z *ℤ c) (pred_ℤ-*ℤ (pos zero) b) ∙ spread_less (pos zero *ℤ b) b c ∙ ap (λ z. z -ℤ b *ℤ c) (assoc_pos zero b c) ∙ sym (pred_ℤ-*ℤ (pos zero) (b *ℤ c))
assoc_neg (suc n) b c = ap (λ z. z *ℤ c) (pred_ℤ-*ℤ (negsuc n) b) ∙ spread_less (negsuc n *ℤ b) b c ∙ ap (λ z. z -ℤ b *ℤ c) (assoc_neg n b c) ∙ sym (pred_ℤ-*ℤ (negsuc n) (b *ℤ c))

pub assoc : (a b c : ℤ) → (a *ℤ b) *ℤ c ≡ a *ℤ (b *ℤ c)
assoc (pos n) b c = assoc_pos n b c
assoc (negsuc n) b c = assoc_neg n b c

-- the last two factors change places
pub swap_last : (a b c : ℤ) → (a *ℤ b) *ℤ c ≡ (a *ℤ c) *ℤ b
swap_last a b c = assoc a b c ∙ ap (λ z. a *ℤ z) (*ℤ_comm b c) ∙ sym (assoc a c b)

-- factors above 0
step : (x : ℤ) (k : ℕ) → x *ℤ pos (suc k) ≡ x *ℤ pos k +ℤ x
step x k = *ℤ_comm x (pos (suc k)) ∙ suc_ℤ-*ℤ (pos k) x ∙ ap (λ z. z +ℤ x) (*ℤ_comm (pos k) x)

le_scaled : (x y : ℤ) (k : ℕ) → x ≤ℤ y → (x *ℤ pos k) ≤ℤ (y *ℤ pos k)
le_scaled x y zero h = omega (arith, ints, *ℤ-zero x, *ℤ-zero y)
le_scaled x y (suc k) h = omega (arith, ints, le_scaled x y k h, step x k, step y k)

lt_scaled : (x y : ℤ) (k : ℕ) → x <ℤ y → (x *ℤ pos (suc k)) <ℤ (y *ℤ pos (suc k))
lt_scaled x y k h = omega (arith, ints, le_scaled x y k (omega (arith, ints)), step x k, step y k)

-- a number above 0
pub above : (d : ℤ) → pos 1 ≤ℤ d → (n : ℕ) × (d ≡ pos (suc n))
above (pos zero) h = absurd (omega (arith, ints))
above (pos (suc n)) h = (n, refl)
above (negsuc n) h = absurd (omega (arith, ints))

pub lt_times : (x y d : ℤ) → pos 1 ≤ℤ d → x <ℤ y → (x *ℤ d) <ℤ (y *ℤ d)
lt_times x y d p h = let a = above d p in rw a.1 (lt_scaled x y a.0 h)

pub le_times : (x y d : ℤ) → pos 1 ≤ℤ d → x ≤ℤ y → (x *ℤ d) ≤ℤ (y *ℤ d)
le_times x y d p h = let a = above d p in rw a.1 (le_scaled x y (suc a.0) h)

pub lt_cancel : (x y d : ℤ) → pos 1 ≤ℤ d → (x *ℤ d) <ℤ (y *ℤ d) → x <ℤ y
lt_cancel x y d p h = by_lt_z x y (λ e. e) (λ e. absurd (let f : (y *ℤ d) ≤ℤ (x *ℤ d) = le_times y x d p e in omega (arith, ints)))

pub le_cancel : (x y d : ℤ) → pos 1 ≤ℤ d → (x *ℤ d) ≤ℤ (y *ℤ d) → x ≤ℤ y
le_cancel x y d p h = by_lt_z y x (λ e. absurd (let f : (y *ℤ d) <ℤ (x *ℤ d) = lt_times y x d p e in omega (arith, ints))) (λ e. e)

pub product_above : (x y : ℤ) → pos 1 ≤ℤ x → pos 1 ≤ℤ y → pos 1 ≤ℤ (x *ℤ y)
product_above x y p q = let e : (pos 0 *ℤ y) <ℤ (x *ℤ y) = lt_times (pos 0) x y q (omega (arith, ints)) in omega (arith, ints, zero-*ℤ y)

pub abs_above : (d : ℤ) → pos 1 ≤ℤ d → pos (unsigned_abs d) ≡ d
abs_above d p = omega (arith, ints)
