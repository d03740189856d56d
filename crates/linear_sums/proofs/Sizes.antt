-- How large the parts of a form get in a box is limited by its weight over a greater box.
use Rattle.std.proofs.Common.{◌≡◌, refl, ap, ap₂, ◌∙◌, ℕ, zero, suc, ◌+◌, ◌*◌, ◌≤◌, max, if◌then◌else◌, Bool, true, false, List, [], ◌∷◌, slice_get, Option, Some, None, ℤ, pos, ◌+ℤ◌, ◌-ℤ◌, ◌*ℤ◌, arith}
use Rattle.std.specs.Prelude.{unsigned_abs}
use Rattle.std.specs.Option.{option_map_or}
use Rattle.std.proofs.lemmas.Int.{ints, unsigned_abs-mul}
use Rattle.std.proofs.Math.Nat.{mul-le-mul_left, mul-le-mul_right}
use Rattle.box_eval.specs.declared.rule.Rule.{Rule}
use Rattle.box_eval.specs.declared.rule.Rule.TheOpen.{Rule-F, Term-F, Always, Below, AtMost, Equal, Differ, Both, Either, Not, Whole, Slot, Sum, Less, Times, Truth}
use Rattle.box_eval.specs.declared.bounds.Pair.{Pair}
use Rattle.box_eval.specs.Box.{low_at, high_at, IsBox, IsInside}
use Rattle.box_eval.proofs.Folds.{Two, rule_ones, rule_others, term_ones, term_others, rule_law}
use Rattle.linear_sums.specs.declared.pick.Pick.{Pick}
use Rattle.linear_sums.specs.Linear.{TermForm, RuleForm, no_factor, factor_of, term_form, rule_form, form_of_rule, slot_weight, weight_of_parts, weight_of_terms, rule_weight, linear_form, no_form, form_at, weight_at, sum_form, sum_weight}
use Rattle.linear_sums.specs.Steps.{size_in}
use Rattle.linear_sums.proofs.Weights.{part_left}
use Rattle.linear_sums.proofs.Taking.{size_same}

size_step : (f g : ℤ) (w p q r : ℕ) → r ≤ p + q → unsigned_abs (f +ℤ g) * w + r ≤ (unsigned_abs f * w + p) + (unsigned_abs g * w + q)
size_step f g w p q r h =
    let t : unsigned_abs (f +ℤ g) ≤ unsigned_abs f + unsigned_abs g = omega (arith, ints) in
    let a = mul-le-mul_right w t in
    let b : (unsigned_abs f + unsigned_abs g) * w ≡ unsigned_abs f * w + unsigned_abs g * w = omega arith in
    omega (arith, a, b, h)

pub size_sum : (f g : ℕ → ℤ) (ends : List Pair) → size_in (λ s. f s +ℤ g s) ends ≤ size_in f ends + size_in g ends
size_sum f g [] = omega arith
size_sum f g (p ∷ ps) = size_step (f 0) (g 0) (max (unsigned_abs p.low) (unsigned_abs p.high)) _ _ _ (size_sum (λ s. f (suc s)) (λ s. g (suc s)) ps)

less_step : (f g : ℤ) (w p q r : ℕ) → r ≤ p + q → unsigned_abs (f -ℤ g) * w + r ≤ (unsigned_abs f * w + p) + (unsigned_abs g * w + q)
less_step f g w p q r h =
    let t : unsigned_abs (f -ℤ g) ≤ unsigned_abs f + unsigned_abs g = omega (arith, ints) in
    let a = mul-le-mul_right w t in
    let b : (unsigned_abs f + unsigned_abs g) * w ≡ unsigned_abs f * w + unsigned_abs g * w = omega arith in
    omega (arith, a, b, h)

pub size_less : (f g : ℕ → ℤ) (ends : List Pair) → size_in (λ s. f s -ℤ g s) ends ≤ size_in f ends + size_in g ends
size_less f g [] = omega arith
size_less f g (p ∷ ps) = less_step (f 0) (g 0) (max (unsigned_abs p.low) (unsigned_abs p.high)) _ _ _ (size_less (λ s. f (suc s)) (λ s. g (suc s)) ps)

times_step : (k f w p q : ℕ) → q ≡ k * p → (k * f) * w + q ≡ k * (f * w + p)
times_step k f w p q h = omega (arith, h)

pub size_times : (k : ℤ) (f : ℕ → ℤ) (ends : List Pair) → size_in (λ s. k *ℤ f s) ends ≡ unsigned_abs k * size_in f ends
size_times k f [] = omega arith
size_times k f (p ∷ ps) =
    ap (λ (m : ℕ). m * max (unsigned_abs p.low) (unsigned_abs p.high) + size_in (λ s. k *ℤ f (suc s)) ps) (unsigned_abs-mul k (f 0))
    ∙ times_step (unsigned_abs k) (unsigned_abs (f 0)) (max (unsigned_abs p.low) (unsigned_abs p.high)) _ _ (size_times k (λ s. f (suc s)) ps)

pub size_none : (f : ℕ → ℤ) (ends : List Pair) → ((s : ℕ) → f s ≡ pos 0) → size_in f ends ≡ 0
size_none f [] none = refl
size_none f (p ∷ ps) none = ap₂ (λ (m : ℤ) (n : ℕ). unsigned_abs m * max (unsigned_abs p.low) (unsigned_abs p.high) + n) (none 0) (size_none (λ s. f (suc s)) ps (λ s. none (suc s))) ∙ omega arith

factor_next : (slot s : ℕ) → factor_of (suc slot) (suc s) ≡ factor_of slot s
factor_next slot s = grind arith

factor_later : (s : ℕ) → factor_of 0 (suc s) ≡ pos 0
factor_later s = grind arith

factor_first : (slot : ℕ) → factor_of (suc slot) 0 ≡ pos 0
factor_first slot = grind arith

one_step : (w n : ℕ) → n ≡ 0 → unsigned_abs (pos 1) * w + n ≡ w
one_step w n e = omega (arith, e)

later_step : (f : ℤ) (w n : ℕ) → f ≡ pos 0 → unsigned_abs f * w + n ≡ n
later_step f w n e = ap (λ (m : ℤ). unsigned_abs m * w + n) e ∙ omega arith

pub size_one : (slot : ℕ) (ends : List Pair) → size_in (factor_of slot) ends ≡ max (unsigned_abs (low_at ends slot)) (unsigned_abs (high_at ends slot))
size_one slot [] = refl
size_one zero (p ∷ ps) = one_step (max (unsigned_abs p.low) (unsigned_abs p.high)) _ (size_none (λ s. factor_of 0 (suc s)) ps factor_later)
size_one (suc slot) (p ∷ ps) = later_step (factor_of (suc slot) 0) (max (unsigned_abs p.low) (unsigned_abs p.high)) _ (factor_first slot)
    ∙ size_same (λ s. factor_of (suc slot) (suc s)) (factor_of slot) ps (factor_next slot) ∙ size_one slot ps

-- ---- whole forms

record TermSized (ends : List Pair) (form : TermForm) (weight : ℕ) : Type 0 where
  one : 1 ≤ weight
  constant : unsigned_abs form.constant ≤ weight
  size : size_in form.factor ends ≤ weight

record RuleSized (ends : List Pair) (form : RuleForm) (weight : ℕ) : Type 0 where
  size : size_in form.factor ends ≤ weight

scaled : (c p w v : ℕ) → c ≤ w → p ≤ v → c * p ≤ w * v
scaled c p w v h k = omega (arith, mul-le-mul_right p h, mul-le-mul_left w k)

times_size : (ends : List Pair) (fixed : Bool) (c d : ℤ) (f g : ℕ → ℤ) (m n : ℕ) → unsigned_abs c ≤ m → unsigned_abs d ≤ n → size_in f ends ≤ m → size_in g ends ≤ n
    → size_in (λ s. if fixed then c *ℤ g s else d *ℤ f s) ends ≤ m * n
times_size ends true c d f g m n h i j k = omega (arith, size_times c g ends, scaled (unsigned_abs c) (size_in g ends) m n h k)
times_size ends false c d f g m n h i j k = omega (arith, size_times d f ends, scaled (unsigned_abs d) (size_in f ends) n m i j)

times_constant : (c d : ℤ) (m n : ℕ) → unsigned_abs c ≤ m → unsigned_abs d ≤ n → unsigned_abs (c *ℤ d) ≤ m * n
times_constant c d m n h k = omega (arith, unsigned_abs-mul c d, scaled (unsigned_abs c) (unsigned_abs d) m n h k)

module _ (inner outer : List Pair) (box : IsBox inner) (inside : IsInside inner outer) where
  abbrev A : Type 0
  A = Two RuleForm ℕ (RuleSized inner)

  abbrev B : Type 0
  B = Two TermForm ℕ (TermSized inner)

  rule_sized : (x : Rule-F A B) → RuleSized inner (rule_form (rule_ones RuleForm ℕ TermForm ℕ (RuleSized inner) (TermSized inner) x)) (weight_of_terms (rule_others RuleForm ℕ TermForm ℕ (RuleSized inner) (TermSized inner) x))
  rule_sized Always = record { size = omega (arith, size_none no_factor inner (λ s. refl)) }
  rule_sized (Below a b) = record { size = omega (arith, size_less a.one.factor b.one.factor inner, a.related.size, b.related.size) }
  rule_sized (AtMost a b) = record { size = omega (arith, size_less a.one.factor b.one.factor inner, a.related.size, b.related.size) }
  rule_sized (Equal a b) = record { size = omega (arith, size_none no_factor inner (λ s. refl)) }
  rule_sized (Differ a b) = record { size = omega (arith, size_none no_factor inner (λ s. refl)) }
  rule_sized (Both a b) = record { size = omega (arith, size_none no_factor inner (λ s. refl)) }
  rule_sized (Either a b) = record { size = omega (arith, size_none no_factor inner (λ s. refl)) }
  rule_sized (Not a) = record { size = omega (arith, size_none no_factor inner (λ s. refl)) }

  end_within : (slot : ℕ) → max (unsigned_abs (low_at inner slot)) (unsigned_abs (high_at inner slot)) ≤ slot_weight (low_at outer slot) (high_at outer slot)
  end_within slot = omega (arith, ints, box.ordered slot, inside.above slot, inside.below slot)

  term_sized : (x : Term-F A B) → TermSized inner (term_form (term_ones RuleForm ℕ TermForm ℕ (RuleSized inner) (TermSized inner) x)) (weight_of_parts outer (term_others RuleForm ℕ TermForm ℕ (RuleSized inner) (TermSized inner) x))
  term_sized (Whole n) = record { one = omega arith; constant = omega arith; size = omega (arith, size_none no_factor inner (λ s. refl)) }
  term_sized (Slot s) = record { one = omega arith; constant = omega (arith, ints); size = omega (arith, size_one s inner, end_within s) }
  term_sized (Sum a b) = record {
    one = omega (arith, a.related.one);
    constant = omega (arith, ints, a.related.constant, b.related.constant);
    size = omega (arith, size_sum a.one.factor b.one.factor inner, a.related.size, b.related.size);
  }
  term_sized (Less a b) = record {
    one = omega (arith, a.related.one);
    constant = omega (arith, ints, a.related.constant, b.related.constant);
    size = omega (arith, size_less a.one.factor b.one.factor inner, a.related.size, b.related.size);
  }
  term_sized (Times a b) = record {
    one = omega (arith, a.related.one, part_left a.other b.other b.related.one);
    constant = times_constant a.one.constant b.one.constant a.other b.other a.related.constant b.related.constant;
    size = times_size inner a.one.fixed a.one.constant b.one.constant a.one.factor b.one.factor a.other b.other a.related.constant b.related.constant a.related.size b.related.size;
  }
  term_sized (Truth r) = record { one = omega arith; constant = omega (arith, ints); size = omega (arith, size_none no_factor inner (λ s. refl)) }

  rule_size : (rule : Rule) → size_in (form_of_rule rule).factor inner ≤ rule_weight outer rule
  rule_size rule = (rule_law RuleForm ℕ TermForm ℕ (RuleSized inner) (TermSized inner) rule_form term_form weight_of_terms (weight_of_parts outer) rule_sized term_sized rule).size

  found_size : (o : Option Rule) → size_in (option_map_or (linear_form outer) o no_form).factor inner ≤ option_map_or (rule_weight outer) o 1
  found_size None = omega (arith, size_none no_factor inner (λ s. refl))
  found_size (Some rule) = rule_size rule

  pick_size : (k : ℕ) (f : ℕ → ℤ) (w : ℕ) → size_in f inner ≤ w → size_in (λ s. pos k *ℤ f s) inner ≤ k * w
  pick_size k f w h = omega (arith, size_times (pos k) f inner, mul-le-mul_left k h)

  pub sum_size : (rules : List Rule) (picks : List Pick) → size_in (sum_form outer rules picks).factor inner ≤ sum_weight outer rules picks
  sum_size rules [] = omega (arith, size_none no_factor inner (λ s. refl))
  sum_size rules (pick ∷ picks) = omega (
    arith,
    size_sum (λ s. pos pick.times *ℤ (form_at outer rules pick.rule).factor s) (sum_form outer rules picks).factor inner,
    pick_size pick.times (form_at outer rules pick.rule).factor (weight_at outer rules pick.rule) (found_size (slice_get rules pick.rule)),
    sum_size rules picks,
  )
