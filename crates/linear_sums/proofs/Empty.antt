-- No point of a box meets the rules of a sum that is false there.
use Rattle.std.proofs.Common.{◌≡◌, refl, sym, ap, ap₂, ◌∙◌, ℕ, ◌^◌, Bool, true, false, ◌&&◌, ◌||◌, if◌then◌else◌, nat_le, List, [], ◌∷◌, slice_get, Option, Some, None, ℤ, pos, ◌+ℤ◌, ◌-ℤ◌, ◌*ℤ◌, ◌≤ℤ◌, int_lt, int_le, arith}
use Rattle.std.proofs.lemmas.Int.{ints}
use Rattle.std.proofs.lemmas.Bool.{false≢true}
use Rattle.std.specs.Option.{option_map_or}
use Rattle.box_eval.specs.declared.rule.Rule.{Rule}
use Rattle.box_eval.specs.declared.rule.Rule.TheOpen.{Rule-F, Term-F, Always, Below, AtMost, Equal, Differ, Both, Either, Not, Whole, Slot, Sum, Less, Times, Truth}
use Rattle.box_eval.specs.declared.bounds.Pair.{Pair}
use Rattle.box_eval.specs.declared.flat.Flat.{Flat}
use Rattle.box_eval.specs.Box.{value_of}
use Rattle.box_eval.specs.Truth.{term_value, rule_truth, true_at}
use Rattle.box_eval.specs.Rules.{Meets, IsEmpty}
use Rattle.box_eval.proofs.Folds.{Two, rule_ones, rule_others, term_ones, term_others, rule_law}
use Rattle.box_eval.proofs.Fits.{meets_at}
use Rattle.linear_sums.specs.declared.pick.Pick.{Pick}
use Rattle.linear_sums.specs.Linear.{TermForm, RuleForm, no_factor, whole_form, slot_form, form_plus, form_less, form_times, no_form, term_form, rule_form, form_of_rule, rule_weight, linear_form, form_at, form_and, sum_form, sum_weight, least_in, is_false_form, is_false_sum}
use Rattle.std.proofs.Math.IntN.{*ℤ_comm}
use Rattle.osc_base.proofs.Integers.{spread}
use Rattle.linear_sums.proofs.Products.{spread_left, none_above}
use Rattle.linear_sums.proofs.Dots.{dot, dot_sum, dot_less, dot_times, dot_one, dot_none, least_below}

pub and_first : (a b : Bool) → a && b ≡ true → a ≡ true
and_first true b e = refl
and_first false b e = e

pub and_second : (a b : Bool) → a && b ≡ true → b ≡ true
and_second true b e = e
and_second false b e = absurd (false≢true e)

with_first : (c d q : ℤ) → (c +ℤ pos 0) *ℤ (d +ℤ q) ≡ (c *ℤ d) +ℤ (c *ℤ q)
with_first c d q = ap (λ (n : ℤ). n *ℤ (d +ℤ q)) (omega (arith, ints)) ∙ spread_left c d q

with_second : (c d p : ℤ) → (c +ℤ p) *ℤ (d +ℤ pos 0) ≡ (c *ℤ d) +ℤ (d *ℤ p)
with_second c d p = ap (λ (n : ℤ). (c +ℤ p) *ℤ n) (omega (arith, ints)) ∙ spread c p d ∙ ap (λ (n : ℤ). (c *ℤ d) +ℤ n) (*ℤ_comm p d)

spread_three : (k c d g : ℤ) → k *ℤ ((c +ℤ d) +ℤ g) ≡ ((k *ℤ c) +ℤ (k *ℤ d)) +ℤ (k *ℤ g)
spread_three k c d g = spread_left k (c +ℤ d) g ∙ ap (λ (n : ℤ). n +ℤ (k *ℤ g)) (spread_left k c d)

module _ (point : List ℤ) where
  -- a fixed term has no factors, and a linear one is worth its constant and its factors times the values
  record TermTold (form : TermForm) (value : ℤ) : Type 0 where
    none : form.fixed ≡ true → (slot : ℕ) → form.factor slot ≡ pos 0
    worth : form.linear ≡ true → value ≡ form.constant +ℤ dot form.factor point

  -- a linear rule that is true bounds its form
  record RuleTold (form : RuleForm) (truth : Bool) : Type 0 where
    held : form.linear ≡ true → truth ≡ true → ((form.constant +ℤ dot form.factor point) +ℤ form.gap) ≤ℤ pos 0

  abbrev A : Type 0
  A = Two RuleForm Bool RuleTold

  abbrev B : Type 0
  B = Two TermForm ℤ TermTold

  whole_told : (n : ℤ) → TermTold (whole_form n) n
  whole_told n = record {
    none = λ e slot. refl;
    worth = λ e. sum_of_none n _ (dot_none no_factor point (λ s. refl));
  } where
    sum_of_none : (n d : ℤ) → d ≡ pos 0 → n ≡ n +ℤ d
    sum_of_none n d e = omega (arith, ints)

  slot_told : (slot : ℕ) → TermTold (slot_form slot) (value_of point slot)
  slot_told slot = record {
    none = λ e. absurd (false≢true e);
    worth = λ e. from_one _ _ (dot_one slot point);
  } where
    from_one : (d v : ℤ) → d ≡ v → v ≡ pos 0 +ℤ d
    from_one d v e = omega (arith, ints)

  plus_told : (a b : TermForm) (v w : ℤ) → TermTold a v → TermTold b w → TermTold (form_plus a b) (v +ℤ w)
  plus_told a b v w h k = record {
    none = λ e slot. both_zero _ _ (h.none (and_first a.fixed b.fixed e) slot) (k.none (and_second a.fixed b.fixed e) slot);
    worth = λ e. added v w a.constant b.constant (dot a.factor point) (dot b.factor point) _ (h.worth (and_first a.linear b.linear e)) (k.worth (and_second a.linear b.linear e)) (dot_sum a.factor b.factor point);
  } where
    both_zero : (m n : ℤ) → m ≡ pos 0 → n ≡ pos 0 → m +ℤ n ≡ pos 0
    both_zero m n e f = omega (arith, ints)

    added : (v w c d p q r : ℤ) → v ≡ c +ℤ p → w ≡ d +ℤ q → r ≡ p +ℤ q → v +ℤ w ≡ (c +ℤ d) +ℤ r
    added v w c d p q r e f g = omega (arith, ints)

  less_told : (a b : TermForm) (v w : ℤ) → TermTold a v → TermTold b w → TermTold (form_less a b) (v -ℤ w)
  less_told a b v w h k = record {
    none = λ e slot. both_zero _ _ (h.none (and_first a.fixed b.fixed e) slot) (k.none (and_second a.fixed b.fixed e) slot);
    worth = λ e. taken v w a.constant b.constant (dot a.factor point) (dot b.factor point) _ (h.worth (and_first a.linear b.linear e)) (k.worth (and_second a.linear b.linear e)) (dot_less a.factor b.factor point);
  } where
    both_zero : (m n : ℤ) → m ≡ pos 0 → n ≡ pos 0 → m -ℤ n ≡ pos 0
    both_zero m n e f = omega (arith, ints)

    taken : (v w c d p q r : ℤ) → v ≡ c +ℤ p → w ≡ d +ℤ q → r ≡ p -ℤ q → v -ℤ w ≡ (c -ℤ d) +ℤ r
    taken v w c d p q r e f g = omega (arith, ints)

  zero_product : (m n : ℤ) → n ≡ pos 0 → m *ℤ n ≡ pos 0
  zero_product m n e = ap (λ (k : ℤ). m *ℤ k) e ∙ omega (arith, ints)

  -- a product of a fixed value and a linear one, in either order
  first_fixed : (c d p q r : ℤ) → p ≡ pos 0 → r ≡ c *ℤ q → (c +ℤ p) *ℤ (d +ℤ q) ≡ (c *ℤ d) +ℤ r
  first_fixed c d p q r e f = ap (λ (m : ℤ). (c +ℤ m) *ℤ (d +ℤ q)) e ∙ with_first c d q ∙ ap (λ (n : ℤ). (c *ℤ d) +ℤ n) (sym f)

  second_fixed : (c d p q r : ℤ) → q ≡ pos 0 → r ≡ d *ℤ p → (c +ℤ p) *ℤ (d +ℤ q) ≡ (c *ℤ d) +ℤ r
  second_fixed c d p q r e f = ap (λ (n : ℤ). (c +ℤ p) *ℤ (d +ℤ n)) e ∙ with_second c d p ∙ ap (λ (n : ℤ). (c *ℤ d) +ℤ n) (sym f)

  factors_fixed : (x y : Bool) (m n p q : ℤ) → x && y ≡ true → p ≡ pos 0 → q ≡ pos 0 → if x then m *ℤ q else n *ℤ p ≡ pos 0
  factors_fixed true y m n p q e f g = zero_product m q g
  factors_fixed false y m n p q e f g = absurd (false≢true e)

  product_told : (x y : Bool) (c d : ℤ) (f g : ℕ → ℤ) → (x ≡ true → (s : ℕ) → f s ≡ pos 0) → (y ≡ true → (s : ℕ) → g s ≡ pos 0) → x || y ≡ true
      → (c +ℤ dot f point) *ℤ (d +ℤ dot g point) ≡ (c *ℤ d) +ℤ dot (λ s. if x then c *ℤ g s else d *ℤ f s) point
  product_told true y c d f g h k e = first_fixed c d _ _ _ (dot_none f point (h refl)) (dot_times c g point)
  product_told false y c d f g h k e = second_fixed c d _ _ _ (dot_none g point (k e)) (dot_times d f point)

  times_told : (a b : TermForm) (v w : ℤ) → TermTold a v → TermTold b w → TermTold (form_times a b) (v *ℤ w)
  times_told a b v w h k = record {
    none = λ e slot. factors_fixed a.fixed b.fixed a.constant b.constant (a.factor slot) (b.factor slot) e
        (h.none (and_first a.fixed b.fixed e) slot) (k.none (and_second a.fixed b.fixed e) slot);
    worth = λ e.
        let both = and_first (a.linear && b.linear) (a.fixed || b.fixed) e in
        ap₂ (λ (m n : ℤ). m *ℤ n) (h.worth (and_first a.linear b.linear both)) (k.worth (and_second a.linear b.linear both))
        ∙ product_told a.fixed b.fixed a.constant b.constant a.factor b.factor h.none k.none (and_second (a.linear && b.linear) (a.fixed || b.fixed) e);
  }

  term_told : (x : Term-F A B) → TermTold (term_form (term_ones RuleForm Bool TermForm ℤ RuleTold TermTold x)) (term_value point (term_others RuleForm Bool TermForm ℤ RuleTold TermTold x))
  term_told (Whole n) = whole_told n
  term_told (Slot s) = slot_told s
  term_told (Sum a b) = plus_told a.one b.one a.other b.other a.related b.related
  term_told (Less a b) = less_told a.one b.one a.other b.other a.related b.related
  term_told (Times a b) = times_told a.one b.one a.other b.other a.related b.related
  term_told (Truth r) = record { none = λ e. absurd (false≢true e); worth = λ e. absurd (false≢true e) }

  no_rule_told : (truth : Bool) → RuleTold no_form truth
  no_rule_told truth = record { held = λ e. absurd (false≢true e) }

  below_bound : (v w c d p q r : ℤ) → v ≡ c +ℤ p → w ≡ d +ℤ q → r ≡ p -ℤ q → int_lt v w ≡ true → (((c -ℤ d) +ℤ r) +ℤ pos 1) ≤ℤ pos 0
  below_bound v w c d p q r e f g h = grind (arith, ints)

  at_most_bound : (v w c d p q r : ℤ) → v ≡ c +ℤ p → w ≡ d +ℤ q → r ≡ p -ℤ q → int_le v w ≡ true → (((c -ℤ d) +ℤ r) +ℤ pos 0) ≤ℤ pos 0
  at_most_bound v w c d p q r e f g h = grind (arith, ints)

  rule_told : (x : Rule-F A B) → RuleTold (rule_form (rule_ones RuleForm Bool TermForm ℤ RuleTold TermTold x)) (rule_truth (rule_others RuleForm Bool TermForm ℤ RuleTold TermTold x))
  rule_told Always = no_rule_told _
  rule_told (Below a b) = record {
    held = λ e truth. below_bound a.other b.other a.one.constant b.one.constant (dot a.one.factor point) (dot b.one.factor point) _
        (a.related.worth (and_first a.one.linear b.one.linear e)) (b.related.worth (and_second a.one.linear b.one.linear e)) (dot_less a.one.factor b.one.factor point) truth;
  }
  rule_told (AtMost a b) = record {
    held = λ e truth. at_most_bound a.other b.other a.one.constant b.one.constant (dot a.one.factor point) (dot b.one.factor point) _
        (a.related.worth (and_first a.one.linear b.one.linear e)) (b.related.worth (and_second a.one.linear b.one.linear e)) (dot_less a.one.factor b.one.factor point) truth;
  }
  rule_told (Equal a b) = no_rule_told _
  rule_told (Differ a b) = no_rule_told _
  rule_told (Both a b) = no_rule_told _
  rule_told (Either a b) = no_rule_told _
  rule_told (Not a) = no_rule_told _

  -- what a form says at the point
  abbrev Bounds : RuleForm → Type 0
  Bounds form = form.linear ≡ true → ((form.constant +ℤ dot form.factor point) +ℤ form.gap) ≤ℤ pos 0

  rule_bounds : (rule : Rule) → true_at point rule ≡ true → Bounds (form_of_rule rule)
  rule_bounds rule truth linear = (rule_law RuleForm Bool TermForm ℤ RuleTold TermTold rule_form term_form rule_truth (term_value point) rule_told term_told rule).held linear truth

  linear_bounds : (ends : List Pair) (rule : Rule) → true_at point rule ≡ true → Bounds (linear_form ends rule)
  linear_bounds ends rule truth linear = rule_bounds rule truth (and_first (form_of_rule rule).linear (nat_le (rule_weight ends rule) (2 ^ 120)) linear)

  form_bounds : (ends : List Pair) (rules : List Rule) (k : ℕ) (o : Option Rule) → slice_get rules k ≡ o → Meets point rules → Bounds (option_map_or (linear_form ends) o no_form)
  form_bounds ends rules k None is meets linear = absurd (false≢true linear)
  form_bounds ends rules k (Some rule) is meets linear = linear_bounds ends rule (meets_at point rules k rule meets is) linear

  scaled : (k : ℕ) (c d g c' d' g' r : ℤ) → ((c +ℤ d) +ℤ g) ≤ℤ pos 0 → ((c' +ℤ d') +ℤ g') ≤ℤ pos 0 → r ≡ (pos k *ℤ d) +ℤ d'
      → ((((pos k *ℤ c) +ℤ c') +ℤ r) +ℤ ((pos k *ℤ g) +ℤ g')) ≤ℤ pos 0
  scaled k c d g c' d' g' r h h' e = omega (arith, ints, spread_three (pos k) c d g, none_above k ((c +ℤ d) +ℤ g) h)

  form_and_bounds : (k : ℕ) (a b : RuleForm) → Bounds a → Bounds b → Bounds (form_and k a b)
  form_and_bounds k a b h h' linear = scaled k _ _ _ _ _ _ _ (h (and_first a.linear b.linear linear)) (h' (and_second a.linear b.linear linear))
      (dot_sum (λ s. pos k *ℤ a.factor s) b.factor point ∙ ap (λ (n : ℤ). n +ℤ dot b.factor point) (dot_times (pos k) a.factor point))

  empty_bound : (d : ℤ) → d ≡ pos 0 → ((pos 0 +ℤ d) +ℤ pos 0) ≤ℤ pos 0
  empty_bound d e = omega (arith, ints)

  sum_bounds : (ends : List Pair) (rules : List Rule) (picks : List Pick) → Meets point rules → Bounds (sum_form ends rules picks)
  sum_bounds ends rules [] meets = λ linear. empty_bound _ (dot_none no_factor point (λ s. refl))
  sum_bounds ends rules (pick ∷ picks) meets = form_and_bounds pick.times (form_at ends rules pick.rule) (sum_form ends rules picks)
      (form_bounds ends rules pick.rule (slice_get rules pick.rule) refl meets) (sum_bounds ends rules picks meets)

clash : (c m d g : ℤ) → int_lt (pos 0 -ℤ g) (c +ℤ m) ≡ true → m ≤ℤ d → ((c +ℤ d) +ℤ g) ≤ℤ pos 0 → ⊥
clash c m d g h k l = grind (arith, ints)

-- no point of a box meets all rules if a sum of them is false there
pub sum_empty : (flat : Flat) (picks : List Pick) (ends : List Pair) → is_false_sum flat picks ends ≡ true → IsEmpty flat.rules ends
sum_empty flat picks ends h point p meets =
    let form = sum_form flat.bounds.pairs flat.rules picks in
    let small = nat_le (sum_weight flat.bounds.pairs flat.rules picks) (2 ^ 120) in
    let linear = and_first form.linear small (and_first (form.linear && small) (is_false_form form ends) h) in
    let is_false = and_second (form.linear && small) (is_false_form form ends) h in
    clash form.constant (least_in form.factor ends) (dot form.factor point) form.gap is_false (least_below form.factor ends point p) (sum_bounds point flat.bounds.pairs flat.rules picks meets linear)
