-- Factors taken off the numbers of the slots, for their least value in a box.
use Rattle.std.proofs.Common.{◌≡◌, ◌≢◌, refl, sym, ap, ap₂, ◌∙◌, subst, ℕ, zero, suc, ◌+◌, ◌*◌, ◌≤◌, ◌<◌, ◌^◌, max, if◌then◌else◌, Bool, true, false, nat_eq, List, [], ◌∷◌, length, length-set, slice_set, ℤ, pos, negsuc, ◌+ℤ◌, ◌-ℤ◌, ◌*ℤ◌, FitsSigned, to_z, of_z, arith}
use Rattle.std.specs.Prelude.{unsigned_abs}
use Rattle.std.specs.Int.{w128, int_min}
use Rattle.std.proofs.lemmas.Int.{ints, clamps}
use Rattle.std.proofs.Math.IntN.{*ℤ-zero, zero-*ℤ}
use Rattle.box_eval.specs.declared.bounds.Pair.{Pair}
use Rattle.box_eval.specs.Box.{low_at, high_at, value_of}
use Rattle.linear_sums.specs.Linear.{TermForm, factor_of, least_in}
use Rattle.linear_sums.specs.Steps.{size_in, IsTaken}
use Rattle.linear_sums.proofs.Products.{product_within}
use Rattle.linear_sums.proofs.Gathering.{set_other, set_there}

-- ---- the least value and the size are those of the factors

pub least_same : (f g : ℕ → ℤ) (ends : List Pair) → ((s : ℕ) → f s ≡ g s) → least_in f ends ≡ least_in g ends
least_same f g [] same = refl
least_same f g (p ∷ ps) same = ap₂ (λ (m n : ℤ). int_min (m *ℤ p.low) (m *ℤ p.high) +ℤ n) (same 0) (least_same (λ s. f (suc s)) (λ s. g (suc s)) ps (λ s. same (suc s)))

pub size_same : (f g : ℕ → ℤ) (ends : List Pair) → ((s : ℕ) → f s ≡ g s) → size_in f ends ≡ size_in g ends
size_same f g [] same = refl
size_same f g (p ∷ ps) same = ap₂ (λ (m : ℤ) (n : ℕ). unsigned_abs m * max (unsigned_abs p.low) (unsigned_abs p.high) + n) (same 0) (size_same (λ s. f (suc s)) (λ s. g (suc s)) ps (λ s. same (suc s)))

zero_least : (f g : ℤ) (low high m : ℤ) → g ≡ pos 0 → int_min (f *ℤ low) (f *ℤ high) +ℤ m ≡ int_min (f *ℤ low) (f *ℤ high) +ℤ (int_min (g *ℤ low) (g *ℤ high) +ℤ m)
zero_least f g low high m e =
    let p : g *ℤ low ≡ pos 0 = ap (λ (n : ℤ). n *ℤ low) e ∙ zero-*ℤ low in
    let q : g *ℤ high ≡ pos 0 = ap (λ (n : ℤ). n *ℤ high) e ∙ zero-*ℤ high in
    omega (arith, ints, clamps, p, q)

move_least : (x y m n : ℤ) → m ≡ y +ℤ n → x +ℤ m ≡ y +ℤ (x +ℤ n)
move_least x y m n e = omega (arith, ints, e)

-- the least value is that of one slot and of the others
pub least_without : (f g : ℕ → ℤ) (ends : List Pair) (slot : ℕ) → slot < length ends → g slot ≡ pos 0 → ((s : ℕ) → nat_eq slot s ≡ false → g s ≡ f s)
    → least_in f ends ≡ int_min (f slot *ℤ low_at ends slot) (f slot *ℤ high_at ends slot) +ℤ least_in g ends
least_without f g [] slot h e other = absurd (omega arith)
least_without f g (p ∷ ps) zero h e other =
    ap (λ (n : ℤ). int_min (f 0 *ℤ p.low) (f 0 *ℤ p.high) +ℤ n) (least_same (λ s. f (suc s)) (λ s. g (suc s)) ps (λ s. sym (other (suc s) (grind arith))))
    ∙ zero_least (f 0) (g 0) p.low p.high _ e
least_without f g (p ∷ ps) (suc slot) h e other =
    let rest = least_without (λ s. f (suc s)) (λ s. g (suc s)) ps slot (omega (arith, h)) e (λ s not. other (suc s) (grind arith)) in
    ap (λ (x : ℤ). int_min (x *ℤ p.low) (x *ℤ p.high) +ℤ least_in (λ s. f (suc s)) ps) (sym (other 0 (grind arith)))
    ∙ move_least (int_min (g 0 *ℤ p.low) (g 0 *ℤ p.high)) _ _ _ rest

zero_size : (f g : ℤ) (w m : ℕ) → g ≡ pos 0 → unsigned_abs f * w + m ≡ unsigned_abs f * w + (unsigned_abs g * w + m)
zero_size f g w m e =
    let p : unsigned_abs g * w ≡ 0 = ap (λ (n : ℤ). unsigned_abs n * w) e ∙ omega arith in
    omega (arith, p)

move_size : (x y m n : ℕ) → m ≡ y + n → x + m ≡ y + (x + n)
move_size x y m n e = omega (arith, e)

pub size_without : (f g : ℕ → ℤ) (ends : List Pair) (slot : ℕ) → slot < length ends → g slot ≡ pos 0 → ((s : ℕ) → nat_eq slot s ≡ false → g s ≡ f s)
    → size_in f ends ≡ unsigned_abs (f slot) * max (unsigned_abs (low_at ends slot)) (unsigned_abs (high_at ends slot)) + size_in g ends
size_without f g [] slot h e other = absurd (omega arith)
size_without f g (p ∷ ps) zero h e other =
    ap (λ (n : ℕ). unsigned_abs (f 0) * max (unsigned_abs p.low) (unsigned_abs p.high) + n) (size_same (λ s. f (suc s)) (λ s. g (suc s)) ps (λ s. sym (other (suc s) (grind arith))))
    ∙ zero_size (f 0) (g 0) (max (unsigned_abs p.low) (unsigned_abs p.high)) _ e
size_without f g (p ∷ ps) (suc slot) h e other =
    let rest = size_without (λ s. f (suc s)) (λ s. g (suc s)) ps slot (omega (arith, h)) e (λ s not. other (suc s) (grind arith)) in
    ap (λ (x : ℤ). unsigned_abs x * max (unsigned_abs p.low) (unsigned_abs p.high) + size_in (λ s. f (suc s)) ps) (sym (other 0 (grind arith)))
    ∙ move_size (unsigned_abs (g 0) * max (unsigned_abs p.low) (unsigned_abs p.high)) _ _ _ rest

-- ---- one slot

module _ (ends : List Pair) (old : List ℤ) (slot : ℕ) (there : slot < length ends) (long : length old ≡ length ends) where
  cleared_here : value_of (slice_set old slot (pos 0)) slot ≡ pos 0
  cleared_here = set_there old slot slot (pos 0) (omega (arith, there, long)) (grind arith)

  same_elsewhere : (s : ℕ) → nat_eq slot s ≡ false → value_of (slice_set old slot (pos 0)) s ≡ value_of old s
  same_elsewhere s e = set_other old slot s (pos 0) e

  pub slot_size : unsigned_abs (value_of old slot) * max (unsigned_abs (low_at ends slot)) (unsigned_abs (high_at ends slot)) ≤ size_in (value_of old) ends
  slot_size = omega (arith, size_without (value_of old) (value_of (slice_set old slot (pos 0))) ends slot there cleared_here same_elsewhere)

  min_within : (v low high : ℤ) → unsigned_abs (int_min (v *ℤ low) (v *ℤ high)) ≤ unsigned_abs v * max (unsigned_abs low) (unsigned_abs high)
  min_within v low high =
      let p = product_within v low (unsigned_abs v) (max (unsigned_abs low) (unsigned_abs high)) (omega arith) (omega arith) in
      let q = product_within v high (unsigned_abs v) (max (unsigned_abs low) (unsigned_abs high)) (omega arith) (omega arith) in
      omega (arith, ints, clamps, p, q)

  by_place : (s : ℕ) (same : Bool) → nat_eq slot s ≡ same → (same ≡ false → value_of (slice_set old slot (pos 0)) s ≡ pos 0) → value_of (slice_set old slot (pos 0)) s ≡ pos 0
  by_place s true e other = set_there old slot s (pos 0) (omega (arith, there, long)) e
  by_place s false e other = other refl

  factor_here : (s : ℕ) → factor_of slot s ≢ pos 0 → nat_eq slot s ≡ true
  factor_here s h = told (nat_eq slot s) h where
    told : (b : Bool) → (if b then pos 1 else pos 0) ≢ pos 0 → b ≡ true
    told true h = refl
    told false h = absurd (h refl)

  pub taken_at : (least : ℤ) → least ≡ int_min (value_of old slot *ℤ low_at ends slot) (value_of old slot *ℤ high_at ends slot)
      → IsTaken ends old (slice_set old slot (pos 0)) (factor_of slot) least
  taken_at least is = record {
    as_long = length-set old slot (pos 0);
    taken = ap (λ (n : ℤ). n +ℤ least_in (value_of (slice_set old slot (pos 0))) ends) is
        ∙ sym (least_without (value_of old) (value_of (slice_set old slot (pos 0))) ends slot there cleared_here same_elsewhere);
    smaller = omega (
      arith,
      ap unsigned_abs is,
      min_within (value_of old slot) (low_at ends slot) (high_at ends slot),
      size_without (value_of old) (value_of (slice_set old slot (pos 0))) ends slot there cleared_here same_elsewhere,
    );
    cleared = λ s h. set_there old slot s (pos 0) (omega (arith, there, long)) (factor_here s h);
    stays = λ s e. by_place s (nat_eq slot s) refl (λ not. same_elsewhere s not ∙ e);
  }

-- ---- two parts

pub by_zero : (n m : ℤ) → (n ≡ pos 0 → m ≡ pos 0) → (n ≢ pos 0 → m ≡ pos 0) → m ≡ pos 0
by_zero (pos zero) m is not = is refl
by_zero (pos (suc n)) m is not = not (λ e. grind (arith, ints))
by_zero (negsuc n) m is not = not (λ e. cc)

pub taken_both : (ends : List Pair) (old mid new : List ℤ) (f g h : ℕ → ℤ) (k l m : ℤ) → IsTaken ends old mid f k → IsTaken ends mid new g l
    → ((slot : ℕ) → f slot ≡ pos 0 → g slot ≡ pos 0 → h slot ≡ pos 0) → m ≡ k +ℤ l → IsTaken ends old new h m
taken_both ends old mid new f g h k l m one other none is = record {
  as_long = other.as_long ∙ one.as_long;
  taken = omega (arith, ints, is, one.taken, other.taken);
  smaller = omega (arith, ints, is, one.smaller, other.smaller);
  cleared = λ slot some. by_zero (f slot) (value_of new slot)
      (λ e. by_zero (g slot) (value_of new slot) (λ e'. absurd (some (none slot e e'))) (λ n. other.cleared slot n))
      (λ n. other.stays slot (one.cleared slot n));
  stays = λ slot e. other.stays slot (one.stays slot e);
}

pub sum_fits : (ends : List Pair) (old mid new : List ℤ) (f g : ℕ → ℤ) (k l : ℤ) → IsTaken ends old mid f k → IsTaken ends mid new g l
    → size_in (value_of old) ends ≤ 2 ^ 120 → unsigned_abs k + unsigned_abs l ≤ 2 ^ 120
sum_fits ends old mid new f g k l one other small = omega (arith, one.smaller, other.smaller, small)

pub none_sum : (m n : ℤ) → m ≡ pos 0 → n ≡ pos 0 → m +ℤ n ≡ pos 0
none_sum m n e f = omega (arith, ints)

pub none_less : (m n : ℤ) → m ≡ pos 0 → n ≡ pos 0 → m -ℤ n ≡ pos 0
none_less m n e f = omega (arith, ints)

pub none_times : (fixed : Bool) (c d m n : ℤ) → m ≡ pos 0 → n ≡ pos 0 → (if fixed then c *ℤ n else d *ℤ m) ≡ pos 0
none_times true c d m n e f = ap (λ (k : ℤ). c *ℤ k) f ∙ *ℤ-zero c
none_times false c d m n e f = ap (λ (k : ℤ). d *ℤ k) e ∙ *ℤ-zero d

-- factors by another form that is the same
pub taken_form : (ends : List Pair) (old new : List ℤ) (form joined : TermForm) (least : ℤ) → form ≡ joined → IsTaken ends old new joined.factor least → IsTaken ends old new form.factor least
taken_form ends old new form joined least e taken = subst (λ (f : TermForm). IsTaken ends old new f.factor least) (sym e) taken

-- ---- in 128 bits

pub wrapped_sum : (k l : ℤ) → unsigned_abs k + unsigned_abs l ≤ 2 ^ 120 → to_z w128 (of_z w128 (to_z w128 (of_z w128 k) +ℤ to_z w128 (of_z w128 l))) ≡ k +ℤ l
wrapped_sum k l h = omega (arith, ints)

pub first_product : (v low : ℤ) (high : ℕ) → unsigned_abs v * max (unsigned_abs low) high ≤ 2 ^ 120 → unsigned_abs (v *ℤ low) ≤ 2 ^ 120
first_product v low high h = omega (arith, h, product_within v low (unsigned_abs v) (max (unsigned_abs low) high) (omega arith) (omega arith))

pub second_product : (v high : ℤ) (low : ℕ) → unsigned_abs v * max low (unsigned_abs high) ≤ 2 ^ 120 → unsigned_abs (v *ℤ high) ≤ 2 ^ 120
second_product v high low h = omega (arith, h, product_within v high (unsigned_abs v) (max low (unsigned_abs high)) (omega arith) (omega arith))

pub small_fits : (n : ℤ) → unsigned_abs n ≤ 2 ^ 120 → FitsSigned w128 n
small_fits n h = omega (arith, ints)

pub small_wraps : (n : ℤ) → unsigned_abs n ≤ 2 ^ 120 → to_z w128 (of_z w128 n) ≡ n
small_wraps n h = omega (arith, ints)
