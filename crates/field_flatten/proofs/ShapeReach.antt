-- The term of an expression is no greater than its reach says, and its rule reaches no further than the limit.
use Rattle.std.proofs.Common.{◌≡◌, ℕ, zero, suc, ◌+◌, ◌*◌, ◌/◌, ◌≤◌, ◌<◌, max, refl, sym, ap, ap₂, ◌∙◌, subst, inl, inr, List, [], ◌∷◌, ◌++◌, map, Bool, true, false, ◌&&◌, ◌||◌, not, cond, arith, true≢false}
use Rattle.std.specs.Prelude.{pos, ◌*ℤ◌, nat_eq, nat_lt, unsigned_abs}
use Rattle.std.specs.List.{list_all}
use Rattle.std.proofs.Math.Nat.{mul_assoc, add-mul, mul-le-mul_right}
use Rattle.std.proofs.lemmas.Int.{ints, unsigned_abs-mul}
use Rattle.osc_base.specs.declared.path.Path.{Path}
use Rattle.osc_base.specs.Number.{Number}
use Rattle.osc_base.specs.LowestTerms.{lcm}
use Rattle.osc_base.specs.Comparisons.{greatest_part}
use Rattle.box_eval.specs.declared.bounds.Pair.{Pair}
use Rattle.box_eval.specs.FlatRules.{FlatTerm, FlatRule, times, all_of, any_of}
use Rattle.box_eval.specs.FlatRules as Flat
use Rattle.composition.specs.expr_nodes.declared.compare.Compare.{Compare}
use Rattle.composition.specs.expr_nodes.Kinds.{is_number, is_truth, same_units}
use Rattle.composition.specs.expr_nodes.Typed.{Typed, Info, Constant, Read, Whole, Listed, Span, Minus, Not, Sum, Times, And, Or, Implies, Relation, Within, TypedRow, End, Item, info, kind, scale, reach, items_of}
use Rattle.composition.specs.expr_nodes.Value.{is_one}
use Rattle.composition.specs.expr_nodes.Sizes.{Size, size, constant_size, field_size, duration_size, unit_size, joined, multiplied, is_wide}
use Rattle.composition.specs.expr_nodes.Parts.{is_scalar, parts_of}
use Rattle.composition.specs.expr_nodes.Operators.{fit_for, fits_in, is_range_or_list}
use Rattle.composition.specs.expr_nodes.Sound.{same_size, has_size, is_constant_of, is_per, are_truths, is_truth_info, can_join, is_sound, are_sound, each_read, each_read_of}
use Rattle.field_flatten.specs.Seen.{has_values, have_values}
use Rattle.field_flatten.specs.Shapes.{Layout, Shape, of_one, of_rule, of_term, sum_of, product_of, constant_term, of_constant, read_term, compared, at_common, relation, in_span, in_list, shape, shapes}
use Rattle.field_flatten.proofs.Tests.{left_of, right_of, two_ways, number_is, In, in_either}
use Rattle.field_flatten.proofs.Multiples.{common, share_of, product_positive, lcm_swap}
use Rattle.field_flatten.proofs.ShapeLaw.{scale_is, law, per_law, read_scale, number_no_truth, units_no_truth}
use Rattle.field_flatten.proofs.Fitting.{Fits, RuleFits, whole_fits, less_fits, times_fits, truth_fits, below_fits, at_most_fits, equal_fits, differ_fits, both_fits, either_fits, not_fits, always_fits, AllRules, all_fit, any_fits, SumFits, sum_one, sum_more, sum_row, ProductFits, product_one, product_more, product_row}

pub reach_is : (i : Info) (s : Size) → has_size i s ≡ true → i.reach ≡ s.reach
reach_is i s h =
    let here : Size = record { scale = i.scale; reach = i.reach } in
    number_is i.reach s.reach (right_of (nat_eq i.scale s.scale) (nat_eq i.reach s.reach) (left_of (same_size here s) (not (is_wide s)) h))

-- a factor above 0 of a number above 0
factor_above : (a b n : ℕ) → n ≡ a * b → 0 < n → 0 < b
factor_above a zero n is h = absurd (let zero_is : a * 0 ≡ 0 = omega arith in omega arith)
factor_above a (suc b) n is h = omega arith

module _ (ends : List Pair) (most : ℕ) (one_most : 1 ≤ most) (wide : (n : ℕ) → nat_lt greatest_part n ≡ false → n ≤ most) (at : Layout) (test : Info → Path → ℕ → Bool)
    (read_fits : (i : Info) (path : Path) (per : ℕ) → test i path per ≡ true → 0 < i.scale → (e k : ℕ) → e ≡ i.scale * k → 0 < k → i.reach * k ≤ most → Fits ends most (read_term at path per (at.source path) e) (i.reach * k))
    (read_one : (i : Info) (path : Path) (per : ℕ) → test i path per ≡ true → 1 ≤ i.reach) where
  narrow : (s : Size) → is_wide s ≡ false → s.reach ≤ most
  narrow s h = wide s.reach (part (nat_lt greatest_part s.scale) (nat_lt greatest_part s.reach) h)
    where
      part : (a b : Bool) → a || b ≡ false → b ≡ false
      part true b e = absurd (true≢false e)
      part false b e = e

  not_true : (b : Bool) → not b ≡ true → b ≡ false
  not_true true e = absurd (true≢false (sym e))
  not_true false e = refl

  narrow_info : (i : Info) (s : Size) → has_size i s ≡ true → i.reach ≤ most
  narrow_info i s h =
      let here : Size = record { scale = i.scale; reach = i.reach } in
      rw (reach_is i s h) (narrow s (not_true (is_wide s) (right_of (same_size here s) (not (is_wide s)) h)))

  pub record Sized (i : Info) (s : Shape) : Type 0 where
    pub above : 0 < i.scale
    pub one : 1 ≤ i.reach
    pub small : i.reach ≤ most
    pub kept : s.scale ≡ i.scale
    pub terms : (e k : ℕ) → e ≡ i.scale * k → 0 < k → i.reach * k ≤ most → Fits ends most (s.term e) (i.reach * k)
    pub sums : (e k : ℕ) → e ≡ i.scale * k → 0 < k → i.reach * k ≤ most → SumFits ends most (s.summands e) (i.reach * k)
    pub product : ProductFits ends most s.factors i.reach

  -- the rule of a list or range fits with each term that can be joined with its parts
  abbrev HoldingFits : Shape → List Typed → Type 0
  HoldingFits s parts = (l : Typed) → Sized (info l) (shape at l) → list_all (can_join l) parts ≡ true → RuleFits ends most (s.holding (shape at l).scale (shape at l).term)

  pub record NodeFits (i : Info) (s : Shape) (parts : List Typed) : Type 0 where
    pub sized : Sized i s
    pub rule : is_truth i.kind ≡ true → RuleFits ends most s.rule
    pub holding : HoldingFits s parts
    pub all : is_truth i.kind ≡ true → AllRules ends most s.conjuncts
    pub any : is_truth i.kind ≡ true → AllRules ends most s.disjuncts

  once : (n : ℕ) → n * 1 ≡ n
  once n = omega arith

  -- an expression that is no row
  alone : (i : Info) (d : ℕ) (term : ℕ → FlatTerm) (rule : FlatRule) → d ≡ i.scale → 0 < i.scale → 1 ≤ i.reach → i.reach ≤ most
      → ((e k : ℕ) → e ≡ i.scale * k → 0 < k → i.reach * k ≤ most → Fits ends most (term e) (i.reach * k)) → Sized i (of_one d term rule)
  alone i d term rule is above one small f = record {
    above = above;
    one = one;
    small = small;
    kept = is;
    terms = f;
    sums = λ e k m p few. sum_one ends most [] (i.reach * k) (term e) (product_positive i.reach k one p) (f e k m p few);
    product = product_one ends most [] i.reach (term d) one
        (subst (Fits ends most (term d)) (once i.reach) (f d 1 (is ∙ sym (once i.scale)) (omega arith) (subst (λ n. n ≤ most) (sym (once i.reach)) small)));
  }

  single : (rule : FlatRule) → RuleFits ends most rule → AllRules ends most (rule ∷ [])
  single rule f r (inl e) = subst (RuleFits ends most) (sym e) f
  single rule f r (inr i) = absurd i

  with_last : (row : List FlatRule) (rule : FlatRule) → AllRules ends most row → RuleFits ends most rule → AllRules ends most (row ++ rule ∷ [])
  with_last row rule f g r i = elim (in_either r row (rule ∷ []) i) as (λ _. RuleFits ends most r) [ inl j ↦ f r j | inr j ↦ single rule g r j ]

  never_fits : RuleFits ends most (Flat.Not Flat.Always)
  never_fits = not_fits ends most Flat.Always (always_fits ends most)

  one_fits : Fits ends most (Flat.Whole (pos 1)) 1
  one_fits = whole_fits ends most (pos 1) 1 (omega (arith, ints)) one_most

  truth_terms : (i : Info) (rule : FlatRule) → has_size i unit_size ≡ true → RuleFits ends most rule → Sized i (of_rule rule)
  truth_terms i rule sized fits =
      let scale_one : i.scale ≡ 1 = scale_is i unit_size sized in
      let reach_one : i.reach ≡ 1 = reach_is i unit_size sized in
      alone i 1 (λ e. times e (Flat.Truth rule)) rule (sym scale_one) (omega arith) (omega arith) (omega arith)
      (λ e k is above small.
      let same : 1 * e ≡ i.reach * k = ap (λ n. 1 * n) (is ∙ ap (λ n. n * k) scale_one) ∙ ap (λ n. 1 * n) (unit k) ∙ ap (λ n. n * k) (sym reach_one) in
      subst (Fits ends most (times e (Flat.Truth rule))) same
      (times_fits ends most e (Flat.Truth rule) 1 (omega arith) (truth_fits ends most rule one_most fits) (subst (λ n. n ≤ most) (sym same) small)))
    where
      unit : (k : ℕ) → 1 * k ≡ k
      unit k = omega arith

  -- a truth value that joins a row of others
  truth_rows : (i : Info) (rule : FlatRule) (conjuncts disjuncts : List FlatRule) → has_size i unit_size ≡ true → RuleFits ends most rule
      → AllRules ends most conjuncts → AllRules ends most disjuncts → NodeFits i (record (of_rule rule) { conjuncts = conjuncts; disjuncts = disjuncts }) []
  truth_rows i rule conjuncts disjuncts sized fits f g =
      let own = truth_terms i rule sized fits in
      record {
        sized = record { above = own.above; one = own.one; small = own.small; kept = own.kept; terms = own.terms; sums = own.sums; product = own.product };
        rule = λ _. fits;
        holding = λ l s j. never_fits;
        all = λ _. f;
        any = λ _. g;
      }

  truth_node : (i : Info) (rule : FlatRule) → has_size i unit_size ≡ true → RuleFits ends most rule → NodeFits i (of_rule rule) []
  truth_node i rule sized fits = truth_rows i rule (rule ∷ []) (rule ∷ []) sized fits (single rule fits) (single rule fits)

  number_rule : (i : Info) (term : ℕ → FlatTerm) (s : Shape) → Sized i s → (is_truth i.kind ≡ true → i.scale ≡ 1) → is_truth i.kind ≡ true
      → RuleFits ends most (Flat.Equal (s.term 1) (Flat.Whole (pos 1)))
  number_rule i term s sized one h = let is : i.scale ≡ 1 = one h in let still : i.reach * 1 ≡ i.reach = omega arith in
      equal_fits ends most (s.term 1) (Flat.Whole (pos 1)) (i.reach * 1) 1 (sized.terms 1 1 (omega arith) (omega arith) (subst (λ n. n ≤ most) (sym still) sized.small)) one_fits

  -- a number that joins a row of others
  number_rows : (i : Info) (term : ℕ → FlatTerm) (summands : ℕ → List FlatTerm) (factors : List FlatTerm) → Sized i (record (of_term i.scale term) { summands = summands; factors = factors })
      → (is_truth i.kind ≡ true → i.scale ≡ 1) → NodeFits i (record (of_term i.scale term) { summands = summands; factors = factors }) []
  number_rows i term summands factors sized one =
      let fits = number_rule i term (record (of_term i.scale term) { summands = summands; factors = factors }) sized one in
      record {
        sized = sized;
        rule = fits;
        holding = λ l s j. never_fits;
        all = λ h. single (Flat.Equal (term 1) (Flat.Whole (pos 1))) (fits h);
        any = λ h. single (Flat.Equal (term 1) (Flat.Whole (pos 1))) (fits h);
      }

  number_node : (i : Info) (term : ℕ → FlatTerm) → 0 < i.scale → 1 ≤ i.reach → i.reach ≤ most
      → ((e k : ℕ) → e ≡ i.scale * k → 0 < k → i.reach * k ≤ most → Fits ends most (term e) (i.reach * k)) → (is_truth i.kind ≡ true → i.scale ≡ 1) → NodeFits i (of_term i.scale term) []
  number_node i term above one small f is_one =
      let own = alone i i.scale term (Flat.Equal (term 1) (Flat.Whole (pos 1))) refl above one small f in
      number_rows i term (λ e. term e ∷ []) (term i.scale ∷ []) own is_one

  abbrev zero_rule : FlatRule
  zero_rule = Flat.Equal (Flat.Whole (pos 0)) (Flat.Whole (pos 1))

  rest_node : (i : Info) (holding : ℕ → (ℕ → FlatTerm) → FlatRule) (parts : List Typed) → has_size i unit_size ≡ true
      → ((l : Typed) → Sized (info l) (shape at l) → list_all (can_join l) parts ≡ true → RuleFits ends most (holding (shape at l).scale (shape at l).term))
      → NodeFits i (record (of_term i.scale (λ e. Flat.Whole (pos 0))) { holding = holding }) parts
  rest_node i holding parts sized fits =
      let scale_one : i.scale ≡ 1 = scale_is i unit_size sized in
      let reach_one : i.reach ≡ 1 = reach_is i unit_size sized in
      let own = alone i i.scale (λ e. Flat.Whole (pos 0)) zero_rule refl (omega arith) (omega arith) (omega arith) (λ e k is above small. whole_fits ends most (pos 0) (i.reach * k) (omega (arith, ints)) small) in
      let told : RuleFits ends most zero_rule = equal_fits ends most (Flat.Whole (pos 0)) (Flat.Whole (pos 1)) 0 1 (whole_fits ends most (pos 0) 0 (omega (arith, ints)) (omega arith)) one_fits in
      record {
        sized = record { above = own.above; one = own.one; small = own.small; kept = own.kept; terms = own.terms; sums = own.sums; product = own.product };
        rule = λ _. told;
        holding = fits;
        all = λ _. single zero_rule told;
        any = λ _. single zero_rule told;
      }

  -- ---- constants

  constant_node : (i : Info) (n : Number) → is_constant_of i.kind n && has_size i (constant_size n) ≡ true → 0 < i.scale → NodeFits i (of_constant i.scale n) []
  constant_node i n h above =
      let sized = right_of (is_constant_of i.kind n) (has_size i (constant_size n)) h in
      let scales : i.scale ≡ unsigned_abs n.denominator = scale_is i (constant_size n) sized in
      let reaches : i.reach ≡ max 1 (unsigned_abs n.numerator) = reach_is i (constant_size n) sized in
      let rule : FlatRule = cond (is_one n) Flat.Always (Flat.Not Flat.Always) in
      let own = alone i i.scale (constant_term n) rule refl above (omega arith) (narrow_info i (constant_size n) sized)
      (λ e k is positive small.
      let share : e / unsigned_abs n.denominator ≡ k = ap₂ (λ a b. a / b) is (sym scales) ∙ share_of i.scale k above in
      let less : unsigned_abs n.numerator ≤ i.reach = omega arith in
      whole_fits ends most (n.numerator *ℤ pos (e / unsigned_abs n.denominator)) (i.reach * k)
      (rw (share, unsigned_abs-mul n.numerator (pos k)) (omega (arith, ints, mul-le-mul_right k less))) small) in
      record {
        sized = own;
        rule = λ _. told (is_one n);
        holding = λ l s j. never_fits;
        all = λ _. single rule (told (is_one n));
        any = λ _. single rule (told (is_one n));
      }
    where
      told : (b : Bool) → RuleFits ends most (cond b Flat.Always (Flat.Not Flat.Always))
      told true = always_fits ends most
      told false = never_fits

  -- ---- comparisons

  compared_fits : (sign : Compare) (a b : FlatTerm) (m n : ℕ) → Fits ends most a m → Fits ends most b n → RuleFits ends most (compared sign a b)
  compared_fits Compare.Equal a b m n f g = equal_fits ends most a b m n f g
  compared_fits Compare.Differ a b m n f g = differ_fits ends most a b m n f g
  compared_fits Compare.Below a b m n f g = below_fits ends most a b m n f g
  compared_fits Compare.AtMost a b m n f g = at_most_fits ends most a b m n f g
  compared_fits Compare.Above a b m n f g = below_fits ends most b a n m g f
  compared_fits Compare.AtLeast a b m n f g = at_most_fits ends most b a n m g f

  abbrev SizedOf : Typed → Type 0
  SizedOf t = Sized (info t) (shape at t)

  -- two parts at the least common multiple of their scales
  record AtCommon (a b : Typed) : Type 0 where
    left : ℕ
    right : ℕ
    left_is : lcm (scale a) (scale b) ≡ scale a * left
    right_is : lcm (scale a) (scale b) ≡ scale b * right
    above : 0 < lcm (scale a) (scale b)
    left_above : 0 < left
    right_above : 0 < right
    total : (joined (size a) (size b)).reach ≡ reach a * left + reach b * right

  at_both : (a b : Typed) → SizedOf a → SizedOf b → AtCommon a b
  at_both a b s t =
      let c = common (scale a) (scale b) s.above t.above in
      record {
        left = c.left;
        right = c.right;
        left_is = c.left_is;
        right_is = c.right_is;
        above = c.above;
        left_above = factor_above (scale a) c.left (lcm (scale a) (scale b)) c.left_is c.above;
        right_above = factor_above (scale b) c.right (lcm (scale a) (scale b)) c.right_is c.above;
        total = ap₂ (λ x y. reach a * x + reach b * y) (ap (λ n. n / scale a) c.left_is ∙ share_of (scale a) c.left s.above) (ap (λ n. n / scale b) c.right_is ∙ share_of (scale b) c.right t.above);
      }

  common_fits : (sign : Compare) (a b : Typed) → SizedOf a → SizedOf b → can_join a b ≡ true → RuleFits ends most (at_common sign (shape at a).scale (shape at a).term (shape at b).scale (shape at b).term)
  common_fits sign a b s t h =
      let c = at_both a b s t in
      let small : (joined (size a) (size b)).reach ≤ most = narrow (joined (size a) (size b)) (not_true (is_wide (joined (size a) (size b))) h) in
      let sum : reach a * c.left + reach b * c.right ≤ most = subst (λ n. n ≤ most) c.total small in
      subst (λ n. RuleFits ends most (compared sign ((shape at a).term n) ((shape at b).term n))) (ap₂ lcm (sym s.kept) (sym t.kept))
      (compared_fits sign ((shape at a).term (lcm (scale a) (scale b))) ((shape at b).term (lcm (scale a) (scale b))) (reach a * c.left) (reach b * c.right)
      (s.terms (lcm (scale a) (scale b)) c.left c.left_is c.left_above (omega arith)) (t.terms (lcm (scale a) (scale b)) c.right c.right_is c.right_above (omega arith)))

  common_swapped : (sign : Compare) (a b : Typed) → SizedOf a → SizedOf b → can_join a b ≡ true → RuleFits ends most (at_common sign (shape at b).scale (shape at b).term (shape at a).scale (shape at a).term)
  common_swapped sign a b s t h =
      let c = at_both a b s t in
      let small : (joined (size a) (size b)).reach ≤ most = narrow (joined (size a) (size b)) (not_true (is_wide (joined (size a) (size b))) h) in
      let sum : reach a * c.left + reach b * c.right ≤ most = subst (λ n. n ≤ most) c.total small in
      subst (λ n. RuleFits ends most (compared sign ((shape at b).term n) ((shape at a).term n))) (lcm_swap (scale a) (scale b) s.above t.above ∙ ap₂ lcm (sym t.kept) (sym s.kept))
      (compared_fits sign ((shape at b).term (lcm (scale a) (scale b))) ((shape at a).term (lcm (scale a) (scale b))) (reach b * c.right) (reach a * c.left)
      (t.terms (lcm (scale a) (scale b)) c.right c.right_is c.right_above (omega arith)) (s.terms (lcm (scale a) (scale b)) c.left c.left_is c.left_above (omega arith)))

  -- ---- nodes with parts

  abbrev Reaches : Typed → Type 0
  Reaches t = NodeFits (info t) (shape at t) (parts_of t)

  abbrev RowReaches : TypedRow → Type 0
  RowReaches row = (l : Typed) → SizedOf l → list_all (can_join l) (items_of row) ≡ true
      → (r : FlatRule) → In r (map (λ (s : Shape). at_common Compare.Equal (shape at l).scale (shape at l).term s.scale s.term) (shapes at row)) → RuleFits ends most r

  span_node : (low high : Typed) → SizedOf low → SizedOf high → (l : Typed) → SizedOf l → list_all (can_join l) (low ∷ high ∷ []) ≡ true
      → RuleFits ends most (in_span (shape at low) (shape at high) (shape at l).scale (shape at l).term)
  span_node low high a b l s h = both_fits ends most
      (at_common Compare.AtMost (shape at low).scale (shape at low).term (shape at l).scale (shape at l).term)
      (at_common Compare.AtMost (shape at l).scale (shape at l).term (shape at high).scale (shape at high).term)
      (common_swapped Compare.AtMost l low s a (left_of (can_join l low) (can_join l high && true) h))
      (common_fits Compare.AtMost l high s b (left_of (can_join l high) true (right_of (can_join l low) (can_join l high && true) h)))

  minus_node : (i : Info) (part : Typed) → has_size i (size part) ≡ true → SizedOf part → (is_truth i.kind ≡ true → i.scale ≡ 1) → Reaches (Minus i part)
  minus_node i part h s one =
      let scales : i.scale ≡ scale part = scale_is i (size part) h in
      let reaches : i.reach ≡ reach part = reach_is i (size part) h in
      number_node i (λ e. Flat.Less (Flat.Whole (pos 0)) ((shape at part).term e)) (rw scales s.above) (rw reaches s.one) (rw reaches s.small)
      (λ e k is above small.
      let same : reach part * k ≡ i.reach * k = ap (λ n. n * k) (sym reaches) in
      let own = s.terms e k (is ∙ ap (λ n. n * k) scales) above (subst (λ n. n ≤ most) (sym same) small) in
      let zero_sum : 0 + reach part * k ≡ i.reach * k = omega (arith, same) in
      subst (Fits ends most (Flat.Less (Flat.Whole (pos 0)) ((shape at part).term e))) zero_sum
      (less_fits ends most (Flat.Whole (pos 0)) ((shape at part).term e) 0 (reach part * k) (whole_fits ends most (pos 0) 0 (omega (arith, ints)) (omega arith)) own (subst (λ n. n ≤ most) (sym zero_sum) small))) one

  sum_node : (i : Info) (left right : Typed) → has_size i (joined (size left) (size right)) ≡ true → SizedOf left → SizedOf right → (is_truth i.kind ≡ true → i.scale ≡ 1) → Reaches (Sum i left right)
  sum_node i left right h s t one =
      let c = at_both left right s t in
      let scales : i.scale ≡ lcm (scale left) (scale right) = scale_is i (joined (size left) (size right)) h in
      let reaches : i.reach ≡ reach left * c.left + reach right * c.right = reach_is i (joined (size left) (size right)) h ∙ c.total in
      let positive : 1 ≤ reach left * c.left = product_positive (reach left) c.left s.one c.left_above in
      let row : ℕ → List FlatTerm = λ e. (shape at left).summands e ++ (shape at right).term e ∷ [] in
      let first : 1 ≤ i.reach = omega arith in
      let small : i.reach ≤ most = narrow_info i (joined (size left) (size right)) h in
      let sums : (e k : ℕ) → e ≡ i.scale * k → 0 < k → i.reach * k ≤ most → SumFits ends most (row e) (i.reach * k) =
      λ e k is above few.
      let same : reach left * (c.left * k) + reach right * (c.right * k) ≡ i.reach * k =
      ap₂ (◌+◌) (sym (mul_assoc (reach left) c.left k)) (sym (mul_assoc (reach right) c.right k)) ∙ sym (add-mul (reach left * c.left) (reach right * c.right) k) ∙ ap (λ n. n * k) (sym reaches) in
      let whole : reach left * (c.left * k) + reach right * (c.right * k) ≤ most = subst (λ n. n ≤ most) (sym same) few in
      subst (SumFits ends most (row e)) same
      (sum_more ends most ((shape at left).summands e) (reach left * (c.left * k)) ((shape at right).term e) (reach right * (c.right * k))
      (s.sums e (c.left * k) (is ∙ ap (λ n. n * k) (scales ∙ c.left_is) ∙ mul_assoc (scale left) c.left k) (product_positive c.left k c.left_above above) (omega arith))
      (product_positive (reach right) (c.right * k) t.one (product_positive c.right k c.right_above above))
      (t.terms e (c.right * k) (is ∙ ap (λ n. n * k) (scales ∙ c.right_is) ∙ mul_assoc (scale right) c.right k) (product_positive c.right k c.right_above above) (omega arith))) in
      let own = alone i i.scale (λ e. sum_of (row e)) zero_rule refl (rw scales c.above) first small
      (λ e k is above few. sum_row ends most (row e) (i.reach * k) few (sums e k is above few)) in
      number_rows i (λ e. sum_of (row e)) row (sum_of (row i.scale) ∷ [])
      (record { above = own.above; one = first; small = small; kept = refl; terms = own.terms; sums = sums; product = own.product }) one

  times_node : (i : Info) (left right : Typed) → has_size i (multiplied (size left) (size right)) ≡ true → SizedOf left → SizedOf right → (is_truth i.kind ≡ true → i.scale ≡ 1) → Reaches (Times i left right)
  times_node i left right h s t one =
      let scales : i.scale ≡ scale left * scale right = scale_is i (multiplied (size left) (size right)) h in
      let reaches : i.reach ≡ reach left * reach right = reach_is i (multiplied (size left) (size right)) h in
      let d' = (shape at right).scale in
      let row : List FlatTerm = (shape at left).factors ++ (shape at right).term d' ∷ [] in
      let above : 0 < i.scale = subst (λ n. 0 < n) (sym scales) (product_positive (scale left) (scale right) s.above t.above) in
      let small : i.reach ≤ most = narrow_info i (multiplied (size left) (size right)) h in
      let first : 1 ≤ i.reach = subst (λ n. 1 ≤ n) (sym reaches) (product_positive (reach left) (reach right) s.one t.one) in
      let factors : ProductFits ends most row i.reach =
      subst (ProductFits ends most row) (sym reaches) (product_more ends most (shape at left).factors (reach left) ((shape at right).term d') (reach right) s.product t.one (at_own right t)) in
      let fits : Fits ends most (product_of row) i.reach = product_row ends most row i.reach small factors in
      let own = alone i i.scale (λ e. times (e / i.scale) (product_of row)) zero_rule refl above first small
      (λ e k is positive few.
      let share : e / i.scale ≡ k = ap (λ z. z / i.scale) is ∙ share_of i.scale k above in
      subst (λ n. Fits ends most (times n (product_of row)) (i.reach * k)) (sym share) (times_fits ends most k (product_of row) i.reach first fits few)) in
      number_rows i (λ e. times (e / i.scale) (product_of row)) (λ e. times (e / i.scale) (product_of row) ∷ []) row
      (record { above = above; one = first; small = small; kept = refl; terms = own.terms; sums = own.sums; product = factors }) one
    where
      at_own : (a : Typed) → SizedOf a → Fits ends most ((shape at a).term (shape at a).scale) (reach a)
      at_own a u =
          let same : reach a * 1 ≡ reach a = omega arith in
          subst (Fits ends most ((shape at a).term (shape at a).scale)) same (u.terms (shape at a).scale 1 (u.kept ∙ sym (once (scale a))) (omega arith) (subst (λ n. n ≤ most) (sym same) u.small))

  read_node : (i : Info) (path : Path) (per : ℕ) → test i path per ≡ true
      → is_per i.kind per && (has_size i (field_size per) || (nat_eq per 1000 && has_size i duration_size)) ≡ true → Reaches (Read i path per)
  read_node i path per passes h =
      let rest = right_of (is_per i.kind per) (has_size i (field_size per) || (nat_eq per 1000 && has_size i duration_size)) h in
      let p = per_law i.kind per (left_of (is_per i.kind per) (has_size i (field_size per) || (nat_eq per 1000 && has_size i duration_size)) h) in
      let is = read_scale i per rest in
      number_node i (read_term at path per (at.source path)) (rw is p.above) (read_one i path per passes)
      (two_ways (has_size i (field_size per)) (narrow_info i (field_size per))
      (λ e. let other : nat_eq per 1000 && has_size i duration_size ≡ true = rw e at rest in narrow_info i duration_size (right_of (nat_eq per 1000) (has_size i duration_size) other)))
      (read_fits i path per passes (rw is p.above)) (λ t. is ∙ p.of_truth_one t)

  truth_sized : (i : Info) → is_truth_info i ≡ true → has_size i unit_size ≡ true
  truth_sized i h = right_of (is_truth i.kind) (has_size i unit_size) h

  truths_left : (a b : Typed) → are_truths a b ≡ true → is_truth (kind a) ≡ true
  truths_left a b h = right_of (is_scalar a) (is_truth (kind a)) (left_of (is_scalar a && is_truth (kind a)) (is_scalar b && is_truth (kind b)) h)

  truths_right : (a b : Typed) → are_truths a b ≡ true → is_truth (kind b) ≡ true
  truths_right a b h = right_of (is_scalar b) (is_truth (kind b)) (right_of (is_scalar a && is_truth (kind a)) (is_scalar b && is_truth (kind b)) h)

  -- a row of truth values that all hold
  and_node : (i : Info) (left right : Typed) → is_truth_info i && (are_truths left right && (is_sound left && is_sound right)) ≡ true → Reaches left → Reaches right → Reaches (And i left right)
  and_node i left right h a b =
      let rest = right_of (is_truth_info i) (are_truths left right && (is_sound left && is_sound right)) h in
      let truths = left_of (are_truths left right) (is_sound left && is_sound right) rest in
      let row : List FlatRule = (shape at left).conjuncts ++ (shape at right).rule ∷ [] in
      let fits = with_last (shape at left).conjuncts (shape at right).rule (a.all (truths_left left right truths)) (b.rule (truths_right left right truths)) in
      let whole = all_fit ends most row fits in
      truth_rows i (all_of row) row (all_of row ∷ []) (truth_sized i (left_of (is_truth_info i) (are_truths left right && (is_sound left && is_sound right)) h)) whole fits (single (all_of row) whole)

  -- a row of truth values of which one holds
  or_node : (i : Info) (left right : Typed) → is_truth_info i && (are_truths left right && (is_sound left && is_sound right)) ≡ true → Reaches left → Reaches right → Reaches (Or i left right)
  or_node i left right h a b =
      let rest = right_of (is_truth_info i) (are_truths left right && (is_sound left && is_sound right)) h in
      let truths = left_of (are_truths left right) (is_sound left && is_sound right) rest in
      let row : List FlatRule = (shape at left).disjuncts ++ (shape at right).rule ∷ [] in
      let fits = with_last (shape at left).disjuncts (shape at right).rule (a.any (truths_left left right truths)) (b.rule (truths_right left right truths)) in
      let whole = any_fits ends most row fits in
      truth_rows i (any_of row) (any_of row ∷ []) row (truth_sized i (left_of (is_truth_info i) (are_truths left right && (is_sound left && is_sound right)) h)) whole (single (any_of row) whole) fits

  -- two truth values joined by a rule
  logic_node : (i : Info) (left right : Typed) (join : FlatRule → FlatRule → FlatRule) → ((a b : FlatRule) → RuleFits ends most a → RuleFits ends most b → RuleFits ends most (join a b))
      → is_truth_info i && (are_truths left right && (is_sound left && is_sound right)) ≡ true → Reaches left → Reaches right → NodeFits i (of_rule (join (shape at left).rule (shape at right).rule)) []
  logic_node i left right join keeps h a b =
      let rest = right_of (is_truth_info i) (are_truths left right && (is_sound left && is_sound right)) h in
      let truths = left_of (are_truths left right) (is_sound left && is_sound right) rest in
      truth_node i (join (shape at left).rule (shape at right).rule) (truth_sized i (left_of (is_truth_info i) (are_truths left right && (is_sound left && is_sound right)) h))
      (keeps (shape at left).rule (shape at right).rule (a.rule (truths_left left right truths)) (b.rule (truths_right left right truths)))

  logic_left : (i : Info) (left right : Typed) → is_truth_info i && (are_truths left right && (is_sound left && is_sound right)) ≡ true → is_sound left ≡ true
  logic_left i left right h = left_of (is_sound left) (is_sound right) (right_of (are_truths left right) (is_sound left && is_sound right) (right_of (is_truth_info i) (are_truths left right && (is_sound left && is_sound right)) h))

  logic_right : (i : Info) (left right : Typed) → is_truth_info i && (are_truths left right && (is_sound left && is_sound right)) ≡ true → is_sound right ≡ true
  logic_right i left right h = right_of (is_sound left) (is_sound right) (right_of (are_truths left right) (is_sound left && is_sound right) (right_of (is_truth_info i) (are_truths left right && (is_sound left && is_sound right)) h))

  mutual
    pub reaches : (t : Typed) → is_sound t ≡ true → has_values t ≡ true → each_read test t ≡ true → Reaches t
    reaches (Constant i number) h v r = constant_node i number h (law [] at (Constant i number) h v).above
    reaches (Read i path per) h v r = read_node i path per r h
    reaches (Whole i path) h v r = absurd (true≢false (sym v))
    reaches (Listed i is_field items) h v r =
        rest_node i (in_list (shapes at items)) (items_of items) (left_of (has_size i unit_size) (are_sound items) h)
        (λ l s j. any_fits ends most (map (λ (p : Shape). at_common Compare.Equal (shape at l).scale (shape at l).term p.scale p.term) (shapes at items)) (row_reaches items (right_of (has_size i unit_size) (are_sound items) h) v r l s j))
    reaches (Span i low high) h v r =
        let rest = right_of (is_scalar low && is_scalar high) (has_size i unit_size && (is_sound low && is_sound high)) h in
        let parts = right_of (has_size i unit_size) (is_sound low && is_sound high) rest in
        rest_node i (in_span (shape at low) (shape at high)) (low ∷ high ∷ []) (left_of (has_size i unit_size) (is_sound low && is_sound high) rest)
        (span_node low high (reaches low (left_of (is_sound low) (is_sound high) parts) (left_of (has_values low) (has_values high) v) (left_of (each_read test low) (each_read test high) r)).sized
        (reaches high (right_of (is_sound low) (is_sound high) parts) (right_of (has_values low) (has_values high) v) (right_of (each_read test low) (each_read test high) r)).sized)
    reaches (Minus i part) h v r =
        let rest = right_of (same_units i.kind (kind part)) (has_size i (size part) && is_sound part) h in
        minus_node i part (left_of (has_size i (size part)) (is_sound part) rest) (reaches part (right_of (has_size i (size part)) (is_sound part) rest) v r).sized
        (units_no_truth i.kind (kind part) (left_of (same_units i.kind (kind part)) (has_size i (size part) && is_sound part) h))
    reaches (Not i part) h v r =
        let rest = right_of (is_truth_info i) (are_truths part part && is_sound part) h in
        truth_node i (Flat.Not (shape at part).rule) (truth_sized i (left_of (is_truth_info i) (are_truths part part && is_sound part) h))
        (not_fits ends most (shape at part).rule ((reaches part (right_of (are_truths part part) (is_sound part) rest) v r).rule (truths_left part part (left_of (are_truths part part) (is_sound part) rest))))
    reaches (Sum i left right) h v r =
        let units = left_of (same_units i.kind (kind left) && same_units i.kind (kind right)) (has_size i (joined (size left) (size right)) && (is_sound left && is_sound right)) h in
        let rest = right_of (same_units i.kind (kind left) && same_units i.kind (kind right)) (has_size i (joined (size left) (size right)) && (is_sound left && is_sound right)) h in
        let parts = right_of (has_size i (joined (size left) (size right))) (is_sound left && is_sound right) rest in
        sum_node i left right (left_of (has_size i (joined (size left) (size right))) (is_sound left && is_sound right) rest)
        (reaches left (left_of (is_sound left) (is_sound right) parts) (left_of (has_values left) (has_values right) v) (left_of (each_read test left) (each_read test right) r)).sized
        (reaches right (right_of (is_sound left) (is_sound right) parts) (right_of (has_values left) (has_values right) v) (right_of (each_read test left) (each_read test right) r)).sized
        (units_no_truth i.kind (kind left) (left_of (same_units i.kind (kind left)) (same_units i.kind (kind right)) units))
    reaches (Times i left right) h v r =
        let rest = right_of (is_number (kind left) && is_number (kind right)) (has_size i (multiplied (size left) (size right)) && (is_sound left && is_sound right)) h in
        let parts = right_of (has_size i (multiplied (size left) (size right))) (is_sound left && is_sound right) rest in
        let w = right_of (is_number i.kind) (has_values left && has_values right) v in
        times_node i left right (left_of (has_size i (multiplied (size left) (size right))) (is_sound left && is_sound right) rest)
        (reaches left (left_of (is_sound left) (is_sound right) parts) (left_of (has_values left) (has_values right) w) (left_of (each_read test left) (each_read test right) r)).sized
        (reaches right (right_of (is_sound left) (is_sound right) parts) (right_of (has_values left) (has_values right) w) (right_of (each_read test left) (each_read test right) r)).sized
        (number_no_truth i.kind (left_of (is_number i.kind) (has_values left && has_values right) v))
    reaches (And i left right) h v r = and_node i left right h
        (reaches left (logic_left i left right h) (left_of (has_values left) (has_values right) v) (left_of (each_read test left) (each_read test right) r))
        (reaches right (logic_right i left right h) (right_of (has_values left) (has_values right) v) (right_of (each_read test left) (each_read test right) r))
    reaches (Or i left right) h v r = or_node i left right h
        (reaches left (logic_left i left right h) (left_of (has_values left) (has_values right) v) (left_of (each_read test left) (each_read test right) r))
        (reaches right (logic_right i left right h) (right_of (has_values left) (has_values right) v) (right_of (each_read test left) (each_read test right) r))
    reaches (Implies i left right) h v r = logic_node i left right (λ a b. Flat.Either (Flat.Not a) b) (λ a b f g. either_fits ends most (Flat.Not a) b (not_fits ends most a f) g) h
        (reaches left (logic_left i left right h) (left_of (has_values left) (has_values right) v) (left_of (each_read test left) (each_read test right) r))
        (reaches right (logic_right i left right h) (right_of (has_values left) (has_values right) v) (right_of (each_read test left) (each_read test right) r))
    reaches (Relation i sign left right) h v r =
        let rest = right_of (is_truth_info i) ((fit_for sign left right && can_join left right) && (is_sound left && is_sound right)) h in
        let can = right_of (fit_for sign left right) (can_join left right) (left_of (fit_for sign left right && can_join left right) (is_sound left && is_sound right) rest) in
        let parts = right_of (fit_for sign left right && can_join left right) (is_sound left && is_sound right) rest in
        truth_node i (relation sign (shape at left) (shape at right)) (truth_sized i (left_of (is_truth_info i) ((fit_for sign left right && can_join left right) && (is_sound left && is_sound right)) h))
        (common_fits sign left right
        (reaches left (left_of (is_sound left) (is_sound right) parts) (left_of (has_values left) (has_values right) v) (left_of (each_read test left) (each_read test right) r)).sized
        (reaches right (right_of (is_sound left) (is_sound right) parts) (right_of (has_values left) (has_values right) v) (right_of (each_read test left) (each_read test right) r)).sized can)
    reaches (Within i left right) h v r =
        let rest = right_of (is_truth_info i) (((is_range_or_list right && fits_in left right) && list_all (can_join left) (parts_of right)) && (is_sound left && is_sound right)) h in
        let can = right_of (is_range_or_list right && fits_in left right) (list_all (can_join left) (parts_of right)) (left_of ((is_range_or_list right && fits_in left right) && list_all (can_join left) (parts_of right)) (is_sound left && is_sound right) rest) in
        let parts = right_of ((is_range_or_list right && fits_in left right) && list_all (can_join left) (parts_of right)) (is_sound left && is_sound right) rest in
        truth_node i ((shape at right).holding (shape at left).scale (shape at left).term)
        (truth_sized i (left_of (is_truth_info i) (((is_range_or_list right && fits_in left right) && list_all (can_join left) (parts_of right)) && (is_sound left && is_sound right)) h))
        ((reaches right (right_of (is_sound left) (is_sound right) parts) (right_of (has_values left) (has_values right) v) (right_of (each_read test left) (each_read test right) r)).holding left
        (reaches left (left_of (is_sound left) (is_sound right) parts) (left_of (has_values left) (has_values right) v) (left_of (each_read test left) (each_read test right) r)).sized can)

    row_reaches : (row : TypedRow) → are_sound row ≡ true → have_values row ≡ true → each_read_of test row ≡ true → RowReaches row
    row_reaches End h v r l s j p i = absurd i
    row_reaches (Item item others) h v r l s j p (inl e) =
        let rest = right_of (is_scalar item) (is_sound item && are_sound others) h in
        subst (RuleFits ends most) (sym e) (common_fits Compare.Equal l item s
        (reaches item (left_of (is_sound item) (are_sound others) rest) (left_of (has_values item) (have_values others) v) (left_of (each_read test item) (each_read_of test others) r)).sized
        (left_of (can_join l item) (list_all (can_join l) (items_of others)) j))
    row_reaches (Item item others) h v r l s j p (inr i) =
        let rest = right_of (is_scalar item) (is_sound item && are_sound others) h in
        row_reaches others (right_of (is_sound item) (are_sound others) rest) (right_of (has_values item) (have_values others) v) (right_of (each_read test item) (each_read_of test others) r) l s
        (right_of (can_join l item) (list_all (can_join l) (items_of others)) j) p i
