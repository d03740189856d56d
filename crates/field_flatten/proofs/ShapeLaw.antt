-- The term of an expression is its value times the scale, and its rule is true exactly if the value is 1.
use Rattle.std.proofs.Common.{◌≡◌, ℕ, ◌*◌, ◌/◌, ◌<◌, refl, sym, ap, ap₂, ◌∙◌, subst, List, [], ◌∷◌, ◌++◌, map, Bool, true, false, ◌&&◌, ◌||◌, not, cond, arith, true≢false}
use Rattle.std.specs.Prelude.{ℤ, pos, ◌-ℤ◌, ◌*ℤ◌, ◌≤ℤ◌, nat_eq, int_le, unsigned_abs}
use Rattle.std.specs.List.{list_any, list_all}
use Rattle.std.proofs.Math.Nat.{mul_assoc}
use Rattle.std.proofs.Math.IntN.{pos-*ℤ-pos, *ℤ_comm}
use Rattle.std.proofs.lemmas.Int.{ints}
use Rattle.osc_base.specs.declared.path.Path.{Path}
use Rattle.osc_base.specs.declared.listing.SlotName.{SlotName}
use Rattle.osc_base.specs.Number.{Number, whole, plus, product}
use Rattle.osc_base.specs.Comparisons.{same_number, is_at_most}
use Rattle.osc_base.specs.LowestTerms.{gcd, lcm}
use Rattle.osc_base.proofs.Integers.{assoc, abs_above}
use Rattle.box_eval.specs.Box.{value_of}
use Rattle.box_eval.specs.Truth.{as_number}
use Rattle.box_eval.specs.FlatRules.{FlatTerm, FlatRule, worth_at, holds_at, times, all_of, any_of}
use Rattle.box_eval.specs.FlatRules as Flat
use Rattle.composition.specs.expr_nodes.declared.compare.Compare.{Compare}
use Rattle.composition.specs.expr_nodes.Kinds.{ValueKind, is_number, is_truth, same_units}
use Rattle.composition.specs.expr_nodes.Typed.{Typed, Info, Constant, Read, Whole, Listed, Span, Minus, Not, Sum, Times, And, Or, Implies, Relation, Within, TypedRow, End, Item, info, kind, scale}
use Rattle.composition.specs.expr_nodes.Value.{opposite, of_truth, is_one, compares, worth, is_in, is_item}
use Rattle.composition.specs.expr_nodes.Sizes.{Size, size, constant_size, field_size, duration_size, unit_size, joined, multiplied, is_wide}
use Rattle.composition.specs.expr_nodes.Parts.{is_scalar, parts_of}
use Rattle.composition.specs.expr_nodes.Operators.{fit_for, fits_in, is_range_or_list}
use Rattle.composition.specs.expr_nodes.Sound.{same_size, has_size, is_lowest, is_constant_of, is_per, are_truths, is_truth_info, can_join, is_sound, are_sound}
use Rattle.composition.specs.Scenes.{Source, OfRun, OfPhase, OfValue}
use Rattle.field_flatten.specs.Shapes.{Layout, Shape, of_rule, of_term, sum_of, product_of, constant_term, of_constant, phase_start, phase_end, read_term, compared, at_common, relation, in_span, in_list, shape, shapes}
use Rattle.field_flatten.specs.Seen.{has_values, have_values, source_value, seen}
use Rattle.field_flatten.proofs.Tests.{left_of, right_of, two_ways, number_is}
use Rattle.field_flatten.proofs.JoinedRows.{all_holds, any_holds, all_more, any_more, sum_total, sum_worth, sum_more, sum_alone, product_total, product_worth, product_more, product_alone, times_worth}
use Rattle.field_flatten.proofs.Multiples.{common, share_of, product_positive}
use Rattle.field_flatten.proofs.Times.{IsTimes, widened, opposite_times, plus_times, product_times, read_times, less_is, more_is, at_most_is, at_least_is, same_is}

-- ---- sizes and kinds

pub scale_is : (i : Info) (s : Size) → has_size i s ≡ true → i.scale ≡ s.scale
scale_is i s h =
    let here : Size = record { scale = i.scale; reach = i.reach } in
    number_is i.scale s.scale (left_of (nat_eq i.scale s.scale) (nat_eq i.reach s.reach) (left_of (same_size here s) (not (is_wide s)) h))

pub number_no_truth : {A : Type 0} (k : ValueKind) → is_number k ≡ true → is_truth k ≡ true → A
number_no_truth ValueKind.Truth p q = absurd (true≢false (sym p))
number_no_truth (ValueKind.Number x) p q = absurd (true≢false (sym q))
number_no_truth (ValueKind.Member x) p q = absurd (true≢false (sym q))
number_no_truth ValueKind.Chars p q = absurd (true≢false (sym q))
number_no_truth (ValueKind.Object x) p q = absurd (true≢false (sym q))
number_no_truth (ValueKind.Phase x) p q = absurd (true≢false (sym q))

pub units_no_truth : {A : Type 0} (k l : ValueKind) → same_units k l ≡ true → is_truth k ≡ true → A
units_no_truth ValueKind.Truth l p q = absurd (true≢false (sym p))
units_no_truth (ValueKind.Number x) l p q = absurd (true≢false (sym q))
units_no_truth (ValueKind.Member x) l p q = absurd (true≢false (sym q))
units_no_truth ValueKind.Chars l p q = absurd (true≢false (sym q))
units_no_truth (ValueKind.Object x) l p q = absurd (true≢false (sym q))
units_no_truth (ValueKind.Phase x) l p q = absurd (true≢false (sym q))

pub record PerLaw (k : ValueKind) (per : ℕ) : Type 0 where
  pub above : 0 < per
  pub of_truth_one : is_truth k ≡ true → per ≡ 1

pub per_law : (k : ValueKind) (per : ℕ) → is_per k per ≡ true → PerLaw k per
per_law k per h = two_ways (nat_eq per 1)
    (λ e. let one : per ≡ 1 = number_is per 1 e in record { above = omega arith; of_truth_one = λ _. one })
    (λ e. let rest : is_number k && nat_eq per 1000 ≡ true = rw e at h in
    let many : per ≡ 1000 = number_is per 1000 (right_of (is_number k) (nat_eq per 1000) rest) in
    record { above = omega arith; of_truth_one = number_no_truth k (left_of (is_number k) (nat_eq per 1000) rest) })

pub read_scale : (i : Info) (per : ℕ) → has_size i (field_size per) || (nat_eq per 1000 && has_size i duration_size) ≡ true → i.scale ≡ per
read_scale i per h = two_ways (has_size i (field_size per)) (scale_is i (field_size per))
    (λ e. let rest : nat_eq per 1000 && has_size i duration_size ≡ true = rw e at h in
    scale_is i duration_size (right_of (nat_eq per 1000) (has_size i duration_size) rest) ∙ sym (number_is per 1000 (left_of (nat_eq per 1000) (has_size i duration_size) rest)))

-- ---- nodes

module _ (point : List ℤ) where
  -- a term at each multiple of a scale
  abbrev pub Terms : Number → ℕ → (ℕ → FlatTerm) → Type 0
  Terms x d term = (e k : ℕ) → e ≡ d * k → IsTimes x e (worth_at point (term e))

  abbrev pub Holding : (ℕ → (ℕ → FlatTerm) → FlatRule) → (Number → Bool) → Type 0
  Holding holding inside = (d : ℕ) (term : ℕ → FlatTerm) (x : Number) → 0 < d → Terms x d term → holds_at point (holding d term) ≡ inside x

  -- the rows with which an expression goes on
  pub record RowsLaw (i : Info) (x : Number) (summands : ℕ → List FlatTerm) (factors : List FlatTerm) (conjuncts disjuncts : List FlatRule) : Type 0 where
    pub sums : (e k : ℕ) → e ≡ i.scale * k → IsTimes x e (sum_total point (summands e))
    pub product : IsTimes x i.scale (product_total point factors)
    pub all : is_truth i.kind ≡ true → list_all (holds_at point) conjuncts ≡ is_one x
    pub any : is_truth i.kind ≡ true → list_any (holds_at point) disjuncts ≡ is_one x

  pub record NodeLaw (i : Info) (s : Shape) (x : Number) (inside : Number → Bool) : Type 0 where
    pub above : 0 < i.scale
    pub kept : s.scale ≡ i.scale
    pub term : Terms x i.scale s.term
    pub rule : is_truth i.kind ≡ true → holds_at point s.rule ≡ is_one x
    pub holding : Holding s.holding inside
    pub rows : RowsLaw i x s.summands s.factors s.conjuncts s.disjuncts

  abbrev nothing : Number → Bool
  nothing x = false

  -- at its own scale, which its shape keeps
  pub own_terms : (i : Info) (s : Shape) (x : Number) (inside : Number → Bool) → NodeLaw i s x inside → Terms x s.scale s.term
  own_terms i s x inside law e k is = law.term e k (is ∙ ap (λ d. d * k) law.kept)

  pub own_above : (i : Info) (s : Shape) (x : Number) (inside : Number → Bool) → NodeLaw i s x inside → 0 < s.scale
  own_above i s x inside law = rw law.kept law.above

  one_is : (x : Number) (n : ℤ) → IsTimes x 1 n → same_number n (pos 1) ≡ is_one x
  one_is x n is = sym (same_is x (whole (pos 1)) 1 n (pos 1) (omega arith) is (record { above = omega (arith, ints); same = refl }))

  truth_times : (b : Bool) (e : ℕ) → IsTimes (of_truth b) e (pos e *ℤ as_number b)
  truth_times true e = record { above = omega (arith, ints); same = omega (arith, ints) }
  truth_times false e = record { above = omega (arith, ints); same = omega (arith, ints) }

  truth_one : (b : Bool) → b ≡ is_one (of_truth b)
  truth_one true = refl
  truth_one false = refl

  and_unit : (b : Bool) → (b && true) ≡ b
  and_unit true = refl
  and_unit false = refl

  or_unit : (b : Bool) → (b || false) ≡ b
  or_unit true = refl
  or_unit false = refl

  once : (n : ℕ) → n ≡ n * 1
  once n = omega arith

  -- an expression that is no row
  alone : (i : Info) (d : ℕ) (x : Number) (term : ℕ → FlatTerm) (rule : FlatRule) → i.scale ≡ d → Terms x i.scale term → (is_truth i.kind ≡ true → holds_at point rule ≡ is_one x)
      → RowsLaw i x (λ e. term e ∷ []) (term d ∷ []) (rule ∷ []) (rule ∷ [])
  alone i d x term rule is f g = record {
    sums = λ e k h. subst (IsTimes x e) (sum_alone point (term e)) (f e k h);
    product = subst (λ c. IsTimes x c (product_total point (term d ∷ []))) (sym is) (subst (IsTimes x d) (product_alone point (term d)) (f d 1 (sym is ∙ once i.scale)));
    all = λ t. and_unit (holds_at point rule) ∙ g t;
    any = λ t. or_unit (holds_at point rule) ∙ g t;
  }

  truth_terms : (i : Info) (rule : FlatRule) (b : Bool) → holds_at point rule ≡ b → Terms (of_truth b) i.scale (λ e. times e (Flat.Truth rule))
  truth_terms i rule b is e k h = subst (IsTimes (of_truth b) e) (ap (λ t. pos e *ℤ as_number t) (sym is) ∙ sym (times_worth point e (Flat.Truth rule))) (truth_times b e)

  -- a truth value that joins a row of others
  truth_rows : (i : Info) (rule : FlatRule) (b : Bool) (conjuncts disjuncts : List FlatRule) → has_size i unit_size ≡ true → holds_at point rule ≡ b
      → list_all (holds_at point) conjuncts ≡ b → list_any (holds_at point) disjuncts ≡ b
      → NodeLaw i (record (of_rule rule) { conjuncts = conjuncts; disjuncts = disjuncts }) (of_truth b) nothing
  truth_rows i rule b conjuncts disjuncts sized is alls anys =
      let one : i.scale ≡ 1 = scale_is i unit_size sized in
      let single = alone i 1 (of_truth b) (λ e. times e (Flat.Truth rule)) rule one (truth_terms i rule b is) (λ _. is ∙ truth_one b) in
      record {
        above = omega arith;
        kept = sym one;
        term = truth_terms i rule b is;
        rule = λ _. is ∙ truth_one b;
        holding = λ d term x p f. refl;
        rows = record { sums = single.sums; product = single.product; all = λ _. alls ∙ truth_one b; any = λ _. anys ∙ truth_one b };
      }

  pub truth_node : (i : Info) (rule : FlatRule) (b : Bool) → has_size i unit_size ≡ true → holds_at point rule ≡ b → NodeLaw i (of_rule rule) (of_truth b) nothing
  truth_node i rule b sized is = truth_rows i rule b (rule ∷ []) (rule ∷ []) sized is (and_unit (holds_at point rule) ∙ is) (or_unit (holds_at point rule) ∙ is)

  number_rule : (i : Info) (term : ℕ → FlatTerm) (x : Number) → Terms x i.scale term → (is_truth i.kind ≡ true → i.scale ≡ 1)
      → is_truth i.kind ≡ true → holds_at point (Flat.Equal (term 1) (Flat.Whole (pos 1))) ≡ is_one x
  number_rule i term x f one h = let is : i.scale ≡ 1 = one h in one_is x (worth_at point (term 1)) (f 1 1 (omega arith))

  -- a number that joins a row of others
  number_rows : (i : Info) (term : ℕ → FlatTerm) (x : Number) (summands : ℕ → List FlatTerm) (factors : List FlatTerm) → 0 < i.scale → Terms x i.scale term
      → (is_truth i.kind ≡ true → i.scale ≡ 1) → ((e k : ℕ) → e ≡ i.scale * k → IsTimes x e (sum_total point (summands e))) → IsTimes x i.scale (product_total point factors)
      → NodeLaw i (record (of_term i.scale term) { summands = summands; factors = factors }) x nothing
  number_rows i term x summands factors above f one sums product =
      let single = alone i i.scale x term (Flat.Equal (term 1) (Flat.Whole (pos 1))) refl f (number_rule i term x f one) in
      record {
        above = above;
        kept = refl;
        term = f;
        rule = number_rule i term x f one;
        holding = λ d t y p g. refl;
        rows = record { sums = sums; product = product; all = single.all; any = single.any };
      }

  pub number_node : (i : Info) (term : ℕ → FlatTerm) (x : Number) → 0 < i.scale → Terms x i.scale term → (is_truth i.kind ≡ true → i.scale ≡ 1) → NodeLaw i (of_term i.scale term) x nothing
  number_node i term x above f one =
      let single = alone i i.scale x term (Flat.Equal (term 1) (Flat.Whole (pos 1))) refl f (number_rule i term x f one) in
      number_rows i term x (λ e. term e ∷ []) (term i.scale ∷ []) above f one single.sums single.product

  zero_times : (e : ℕ) → IsTimes (whole (pos 0)) e (pos 0)
  zero_times e = record { above = omega (arith, ints); same = omega (arith, ints) }

  pub rest_node : (i : Info) (holding : ℕ → (ℕ → FlatTerm) → FlatRule) (inside : Number → Bool) → has_size i unit_size ≡ true → Holding holding inside
      → NodeLaw i (record (of_term i.scale (λ e. Flat.Whole (pos 0))) { holding = holding }) (whole (pos 0)) inside
  rest_node i holding inside sized f =
      let one : i.scale ≡ 1 = scale_is i unit_size sized in
      let single = alone i i.scale (whole (pos 0)) (λ e. Flat.Whole (pos 0)) (Flat.Equal (Flat.Whole (pos 0)) (Flat.Whole (pos 1))) refl (λ e k h. zero_times e) (λ _. refl) in
      record { above = omega arith; kept = refl; term = λ e k h. zero_times e; rule = λ _. refl; holding = f; rows = single }

  -- ---- constants

  lowest_above : (n : Number) → is_lowest n ≡ true → pos 1 ≤ℤ n.denominator
  lowest_above n h = from (left_of (int_le (pos 1) n.denominator) (nat_eq (gcd (unsigned_abs n.numerator) (unsigned_abs n.denominator)) 1) h)
    where
      from : int_le (pos 1) n.denominator ≡ true → pos 1 ≤ℤ n.denominator
      from e = grind (arith, ints)

  constant_terms : (n : Number) (d : ℕ) → pos 1 ≤ℤ n.denominator → d ≡ unsigned_abs n.denominator → Terms n d (constant_term n)
  constant_terms n d above is e k m =
      let here : e ≡ unsigned_abs n.denominator * k = m ∙ ap (λ z. z * k) is in
      let over : 0 < unsigned_abs n.denominator = omega (arith, ints) in
      let share : e / unsigned_abs n.denominator ≡ k = ap (λ z. z / unsigned_abs n.denominator) here ∙ share_of (unsigned_abs n.denominator) k over in
      record {
        above = above;
        same = ap (λ z. n.numerator *ℤ pos z) here ∙ ap (λ z. n.numerator *ℤ z) (sym (pos-*ℤ-pos (unsigned_abs n.denominator) k) ∙ *ℤ_comm (pos (unsigned_abs n.denominator)) (pos k))
            ∙ sym (assoc n.numerator (pos k) (pos (unsigned_abs n.denominator)))
            ∙ ap₂ (λ z w. (n.numerator *ℤ pos z) *ℤ w) (sym share) (abs_above n.denominator above);
      }

  told : (b : Bool) → holds_at point (cond b Flat.Always (Flat.Not Flat.Always)) ≡ b
  told true = refl
  told false = refl

  pub constant_node : (i : Info) (n : Number) → is_constant_of i.kind n && has_size i (constant_size n) ≡ true → NodeLaw i (of_constant i.scale n) n nothing
  constant_node i n h =
      let is : i.scale ≡ unsigned_abs n.denominator = scale_is i (constant_size n) (right_of (is_constant_of i.kind n) (has_size i (constant_size n)) h) in
      let low = left_of (is_lowest n) (not (is_truth i.kind) || ((nat_eq (unsigned_abs n.denominator) 1 && int_le (pos 0) n.numerator) && int_le n.numerator (pos 1)))
      (left_of (is_constant_of i.kind n) (has_size i (constant_size n)) h) in
      let above : pos 1 ≤ℤ n.denominator = lowest_above n low in
      record {
        above = let over : 0 < unsigned_abs n.denominator = omega (arith, ints) in rw is over;
        kept = refl;
        term = constant_terms n i.scale above is;
        rule = λ _. told (is_one n);
        holding = λ d term x p f. refl;
        rows = alone i i.scale n (constant_term n) (cond (is_one n) Flat.Always (Flat.Not Flat.Always)) refl (constant_terms n i.scale above is) (λ _. told (is_one n));
      }

  -- ---- reads

  pub read_node : (at : Layout) (i : Info) (path : Path) (per : ℕ) (source : Source)
      → is_per i.kind per && (has_size i (field_size per) || (nat_eq per 1000 && has_size i duration_size)) ≡ true
      → NodeLaw i (of_term i.scale (read_term at path per source)) (record { numerator = source_value at point path source; denominator = pos per }) nothing
  read_node at i path per source h =
      let p = per_law i.kind per (left_of (is_per i.kind per) (has_size i (field_size per) || (nat_eq per 1000 && has_size i duration_size)) h) in
      let is = read_scale i per (right_of (is_per i.kind per) (has_size i (field_size per) || (nat_eq per 1000 && has_size i duration_size)) h) in
      number_node i (read_term at path per source) (record { numerator = source_value at point path source; denominator = pos per })
      (rw is p.above) (λ e k m. by source e k (m ∙ ap (λ d. d * k) is) p.above) (λ t. is ∙ p.of_truth_one t)
    where
      timed : (k tick : ℕ) (a b : ℤ) → pos (k * tick) *ℤ (a -ℤ b) ≡ pos k *ℤ (pos tick *ℤ (a -ℤ b))
      timed k tick a b = ap (λ z. z *ℤ (a -ℤ b)) (sym (pos-*ℤ-pos k tick)) ∙ assoc (pos k) (pos tick) (a -ℤ b)

      less_zero : (a : ℤ) → a ≡ a -ℤ pos 0
      less_zero a = omega (arith, ints)

      by : (s : Source) (e k : ℕ) → e ≡ per * k → 0 < per
          → IsTimes (record { numerator = source_value at point path s; denominator = pos per }) e (worth_at point (read_term at path per s e))
      by OfValue e k m above =
          subst (IsTimes (record { numerator = source_value at point path OfValue; denominator = pos per }) e)
          (ap (λ q. pos q *ℤ source_value at point path OfValue) (sym (ap (λ q. q / per) m ∙ share_of per k above)) ∙ sym (times_worth point (e / per) (Flat.Slot (at.slot (SlotName.Value path)))))
          (read_times (source_value at point path OfValue) per e k above m)
      by (OfPhase phase) e k m above =
          let start = value_of point (at.slot (SlotName.Start phase)) in
          let end = value_of point (at.slot (SlotName.End phase)) in
          subst (IsTimes (record { numerator = source_value at point path (OfPhase phase); denominator = pos per }) e)
          (ap (λ q. pos q *ℤ source_value at point path (OfPhase phase)) (sym (ap (λ q. q / per) m ∙ share_of per k above)) ∙ sym (timed (e / per) at.tick end start)
          ∙ sym (times_worth point (e / per * at.tick) (Flat.Less (phase_end at phase) (phase_start at phase))))
          (read_times (source_value at point path (OfPhase phase)) per e k above m)
      by OfRun e k m above =
          let end = worth_at point at.end in
          subst (IsTimes (record { numerator = source_value at point path OfRun; denominator = pos per }) e)
          (ap (λ q. pos q *ℤ source_value at point path OfRun) (sym (ap (λ q. q / per) m ∙ share_of per k above)) ∙ sym (timed (e / per) at.tick end (pos 0))
          ∙ ap (λ z. pos (e / per * at.tick) *ℤ z) (sym (less_zero end)) ∙ sym (times_worth point (e / per * at.tick) at.end))
          (read_times (source_value at point path OfRun) per e k above m)

  -- ---- comparisons

  pub common_law : (sign : Compare) (d d' : ℕ) (left right : ℕ → FlatTerm) (x y : Number) → 0 < d → 0 < d' → Terms x d left → Terms y d' right
      → holds_at point (at_common sign d left d' right) ≡ compares sign x y
  common_law sign d d' left right x y p q f g =
      let c = common d d' p q in
      by sign c.above (f (lcm d d') c.left c.left_is) (g (lcm d d') c.right c.right_is)
    where
      by : (s : Compare) → 0 < lcm d d' → IsTimes x (lcm d d') (worth_at point (left (lcm d d'))) → IsTimes y (lcm d d') (worth_at point (right (lcm d d')))
          → holds_at point (compared s (left (lcm d d')) (right (lcm d d'))) ≡ compares s x y
      by Compare.Equal p f g = sym (same_is x y (lcm d d') (worth_at point (left (lcm d d'))) (worth_at point (right (lcm d d'))) p f g)
      by Compare.Differ p f g = ap not (sym (same_is x y (lcm d d') (worth_at point (left (lcm d d'))) (worth_at point (right (lcm d d'))) p f g))
      by Compare.Below p f g = sym (less_is x y (lcm d d') (worth_at point (left (lcm d d'))) (worth_at point (right (lcm d d'))) p f g)
      by Compare.AtMost p f g = sym (at_most_is x y (lcm d d') (worth_at point (left (lcm d d'))) (worth_at point (right (lcm d d'))) p f g)
      by Compare.Above p f g = sym (more_is x y (lcm d d') (worth_at point (left (lcm d d'))) (worth_at point (right (lcm d d'))) p f g)
      by Compare.AtLeast p f g = sym (at_least_is x y (lcm d d') (worth_at point (left (lcm d d'))) (worth_at point (right (lcm d d'))) p f g)

  -- ---- expressions

  truths_left : (a b : Typed) → are_truths a b ≡ true → is_truth (kind a) ≡ true
  truths_left a b h = right_of (is_scalar a) (is_truth (kind a)) (left_of (is_scalar a && is_truth (kind a)) (is_scalar b && is_truth (kind b)) h)

  truths_right : (a b : Typed) → are_truths a b ≡ true → is_truth (kind b) ≡ true
  truths_right a b h = right_of (is_scalar b) (is_truth (kind b)) (right_of (is_scalar a && is_truth (kind a)) (is_scalar b && is_truth (kind b)) h)

  truth_sized : (i : Info) → is_truth_info i ≡ true → has_size i unit_size ≡ true
  truth_sized i h = right_of (is_truth i.kind) (has_size i unit_size) h

  module _ (at : Layout) where
    abbrev pub Law : Typed → Type 0
    Law t = NodeLaw (info t) (shape at t) (worth (seen at point) t) (λ x. is_in (seen at point) x t)

    abbrev pub RowLaw : TypedRow → Type 0
    RowLaw row = (d : ℕ) (term : ℕ → FlatTerm) (x : Number) → 0 < d → Terms x d term
        → list_any (holds_at point) (map (λ (s : Shape). at_common Compare.Equal d term s.scale s.term) (shapes at row)) ≡ is_item (seen at point) x row

    terms_of : (t : Typed) → Law t → Terms (worth (seen at point) t) (shape at t).scale (shape at t).term
    terms_of t law = own_terms (info t) (shape at t) (worth (seen at point) t) (λ x. is_in (seen at point) x t) law

    above_of : (t : Typed) → Law t → 0 < (shape at t).scale
    above_of t law = own_above (info t) (shape at t) (worth (seen at point) t) (λ x. is_in (seen at point) x t) law

    list_node : (row : TypedRow) → RowLaw row → Holding (in_list (shapes at row)) (λ x. is_item (seen at point) x row)
    list_node row law d term x p f = any_holds point (map (λ (s : Shape). at_common Compare.Equal d term s.scale s.term) (shapes at row)) ∙ law d term x p f

    span_node : (low high : Typed) → Law low → Law high → Holding (in_span (shape at low) (shape at high)) (λ x. is_at_most (worth (seen at point) low) x && is_at_most x (worth (seen at point) high))
    span_node low high a b d term x p f = ap₂ (◌&&◌)
        (common_law Compare.AtMost (shape at low).scale d (shape at low).term term (worth (seen at point) low) x (above_of low a) p (terms_of low a) f)
        (common_law Compare.AtMost d (shape at high).scale term (shape at high).term x (worth (seen at point) high) p (above_of high b) f (terms_of high b))

    minus_node : (i : Info) (part : Typed) → same_units i.kind (kind part) ≡ true → has_size i (size part) ≡ true → Law part → Law (Minus i part)
    minus_node i part units sized law =
        let is : i.scale ≡ scale part = scale_is i (size part) sized in
        number_node i (λ e. Flat.Less (Flat.Whole (pos 0)) ((shape at part).term e)) (opposite (worth (seen at point) part)) (rw is law.above)
        (λ e k m. opposite_times (worth (seen at point) part) e (worth_at point ((shape at part).term e)) (law.term e k (m ∙ ap (λ d. d * k) is)))
        (units_no_truth i.kind (kind part) units)

    sum_node : (i : Info) (left right : Typed) → same_units i.kind (kind left) ≡ true → has_size i (joined (size left) (size right)) ≡ true → Law left → Law right → Law (Sum i left right)
    sum_node i left right units sized a b =
        let is : i.scale ≡ lcm (scale left) (scale right) = scale_is i (joined (size left) (size right)) sized in
        let c = common (scale left) (scale right) a.above b.above in
        let x : Number = plus (worth (seen at point) left) (worth (seen at point) right) in
        let row : ℕ → List FlatTerm = λ e. (shape at left).summands e ++ (shape at right).term e ∷ [] in
        let sums : (e k : ℕ) → e ≡ i.scale * k → IsTimes x e (sum_total point (row e)) =
        λ e k m. subst (IsTimes x e) (sym (sum_more point ((shape at left).summands e) ((shape at right).term e)))
        (plus_times (worth (seen at point) left) (worth (seen at point) right) e (sum_total point ((shape at left).summands e)) (worth_at point ((shape at right).term e))
        (a.rows.sums e (c.left * k) (m ∙ ap (λ d. d * k) (is ∙ c.left_is) ∙ mul_assoc (scale left) c.left k))
        (b.term e (c.right * k) (m ∙ ap (λ d. d * k) (is ∙ c.right_is) ∙ mul_assoc (scale right) c.right k))) in
        let terms : Terms x i.scale (λ e. sum_of (row e)) = λ e k m. subst (IsTimes x e) (sym (sum_worth point (row e))) (sums e k m) in
        let own : i.scale ≡ i.scale * 1 = once i.scale in
        number_rows i (λ e. sum_of (row e)) x row (sum_of (row i.scale) ∷ []) (rw is c.above) terms (units_no_truth i.kind (kind left) units) sums
        (subst (IsTimes x i.scale) (product_alone point (sum_of (row i.scale))) (terms i.scale 1 own))

    times_node : (i : Info) (left right : Typed) → is_number i.kind ≡ true → has_size i (multiplied (size left) (size right)) ≡ true → Law left → Law right → Law (Times i left right)
    times_node i left right number sized a b =
        let is : i.scale ≡ scale left * scale right = scale_is i (multiplied (size left) (size right)) sized in
        let d' = (shape at right).scale in
        let x : Number = product (worth (seen at point) left) (worth (seen at point) right) in
        let row : List FlatTerm = (shape at left).factors ++ (shape at right).term d' ∷ [] in
        let above : 0 < i.scale = subst (λ n. 0 < n) (sym is) (product_positive (scale left) (scale right) a.above b.above) in
        let last : IsTimes (worth (seen at point) right) (scale right) (worth_at point ((shape at right).term d')) =
        subst (λ n. IsTimes (worth (seen at point) right) n (worth_at point ((shape at right).term d'))) b.kept (terms_of right b d' 1 (once d')) in
        let own : IsTimes x (scale left * scale right) (product_total point row) =
        subst (IsTimes x (scale left * scale right)) (sym (product_more point (shape at left).factors ((shape at right).term d')))
        (product_times (worth (seen at point) left) (worth (seen at point) right) (scale left) (scale right) (product_total point (shape at left).factors) (worth_at point ((shape at right).term d')) a.rows.product last) in
        let product_is : IsTimes x i.scale (product_total point row) = subst (λ n. IsTimes x n (product_total point row)) (sym is) own in
        let v = worth_at point (product_of row) in
        let told : IsTimes x i.scale v = subst (IsTimes x i.scale) (sym (product_worth point row)) product_is in
        let terms : Terms x i.scale (λ e. times (e / i.scale) (product_of row)) =
        λ e k m. let share : e / i.scale ≡ k = ap (λ z. z / i.scale) m ∙ share_of i.scale k above in
        subst (IsTimes x e) (*ℤ_comm v (pos k) ∙ ap (λ z. pos z *ℤ v) (sym share) ∙ sym (times_worth point (e / i.scale) (product_of row)))
        (subst (λ z. IsTimes x z (v *ℤ pos k)) (sym m) (widened x i.scale k v told)) in
        number_rows i (λ e. times (e / i.scale) (product_of row)) x (λ e. times (e / i.scale) (product_of row) ∷ []) row above terms (number_no_truth i.kind number)
        (λ e k m. subst (IsTimes x e) (sum_alone point (times (e / i.scale) (product_of row))) (terms e k m)) product_is

    -- a row of truth values that all hold
    and_node : (i : Info) (left right : Typed) → is_truth_info i ≡ true → are_truths left right ≡ true → Law left → Law right → Law (And i left right)
    and_node i left right sized truths a b =
        let row : List FlatRule = (shape at left).conjuncts ++ (shape at right).rule ∷ [] in
        let is : list_all (holds_at point) row ≡ (is_one (worth (seen at point) left) && is_one (worth (seen at point) right)) =
        all_more point (shape at left).conjuncts (shape at right).rule ∙ ap₂ (◌&&◌) (a.rows.all (truths_left left right truths)) (b.rule (truths_right left right truths)) in
        truth_rows i (all_of row) (is_one (worth (seen at point) left) && is_one (worth (seen at point) right)) row (all_of row ∷ []) (truth_sized i sized)
        (all_holds point row ∙ is) is (or_unit (holds_at point (all_of row)) ∙ all_holds point row ∙ is)

    -- a row of truth values of which one holds
    or_node : (i : Info) (left right : Typed) → is_truth_info i ≡ true → are_truths left right ≡ true → Law left → Law right → Law (Or i left right)
    or_node i left right sized truths a b =
        let row : List FlatRule = (shape at left).disjuncts ++ (shape at right).rule ∷ [] in
        let is : list_any (holds_at point) row ≡ (is_one (worth (seen at point) left) || is_one (worth (seen at point) right)) =
        any_more point (shape at left).disjuncts (shape at right).rule ∙ ap₂ (◌||◌) (a.rows.any (truths_left left right truths)) (b.rule (truths_right left right truths)) in
        truth_rows i (any_of row) (is_one (worth (seen at point) left) || is_one (worth (seen at point) right)) (any_of row ∷ []) row (truth_sized i sized)
        (any_holds point row ∙ is) (and_unit (holds_at point (any_of row)) ∙ any_holds point row ∙ is) is

    mutual
      pub law : (t : Typed) → is_sound t ≡ true → has_values t ≡ true → Law t
      law (Constant i number) h v = constant_node i number h
      law (Read i path per) h v = read_node at i path per (at.source path) h
      law (Whole i path) h v = absurd (true≢false (sym v))
      law (Listed i is_field items) h v =
          rest_node i (in_list (shapes at items)) (λ x. is_item (seen at point) x items) (left_of (has_size i unit_size) (are_sound items) h)
          (list_node items (row_law items (right_of (has_size i unit_size) (are_sound items) h) v))
      law (Span i low high) h v =
          let rest = right_of (is_scalar low && is_scalar high) (has_size i unit_size && (is_sound low && is_sound high)) h in
          let parts = right_of (has_size i unit_size) (is_sound low && is_sound high) rest in
          rest_node i (in_span (shape at low) (shape at high)) (λ x. is_in (seen at point) x (Span i low high)) (left_of (has_size i unit_size) (is_sound low && is_sound high) rest)
          (span_node low high (law low (left_of (is_sound low) (is_sound high) parts) (left_of (has_values low) (has_values high) v))
          (law high (right_of (is_sound low) (is_sound high) parts) (right_of (has_values low) (has_values high) v)))
      law (Minus i part) h v =
          let rest = right_of (same_units i.kind (kind part)) (has_size i (size part) && is_sound part) h in
          minus_node i part (left_of (same_units i.kind (kind part)) (has_size i (size part) && is_sound part) h) (left_of (has_size i (size part)) (is_sound part) rest)
          (law part (right_of (has_size i (size part)) (is_sound part) rest) v)
      law (Not i part) h v =
          let rest = right_of (is_truth_info i) (are_truths part part && is_sound part) h in
          let a = law part (right_of (are_truths part part) (is_sound part) rest) v in
          truth_node i (Flat.Not (shape at part).rule) (not (is_one (worth (seen at point) part))) (truth_sized i (left_of (is_truth_info i) (are_truths part part && is_sound part) h))
          (ap not (a.rule (truths_left part part (left_of (are_truths part part) (is_sound part) rest))))
      law (Sum i left right) h v =
          let units = left_of (same_units i.kind (kind left) && same_units i.kind (kind right)) (has_size i (joined (size left) (size right)) && (is_sound left && is_sound right)) h in
          let rest = right_of (same_units i.kind (kind left) && same_units i.kind (kind right)) (has_size i (joined (size left) (size right)) && (is_sound left && is_sound right)) h in
          let parts = right_of (has_size i (joined (size left) (size right))) (is_sound left && is_sound right) rest in
          sum_node i left right (left_of (same_units i.kind (kind left)) (same_units i.kind (kind right)) units) (left_of (has_size i (joined (size left) (size right))) (is_sound left && is_sound right) rest)
          (law left (left_of (is_sound left) (is_sound right) parts) (left_of (has_values left) (has_values right) v))
          (law right (right_of (is_sound left) (is_sound right) parts) (right_of (has_values left) (has_values right) v))
      law (Times i left right) h v =
          let rest = right_of (is_number (kind left) && is_number (kind right)) (has_size i (multiplied (size left) (size right)) && (is_sound left && is_sound right)) h in
          let parts = right_of (has_size i (multiplied (size left) (size right))) (is_sound left && is_sound right) rest in
          let w = right_of (is_number i.kind) (has_values left && has_values right) v in
          times_node i left right (left_of (is_number i.kind) (has_values left && has_values right) v) (left_of (has_size i (multiplied (size left) (size right))) (is_sound left && is_sound right) rest)
          (law left (left_of (is_sound left) (is_sound right) parts) (left_of (has_values left) (has_values right) w))
          (law right (right_of (is_sound left) (is_sound right) parts) (right_of (has_values left) (has_values right) w))
      law (And i left right) h v =
          let rest = right_of (is_truth_info i) (are_truths left right && (is_sound left && is_sound right)) h in
          let truths = left_of (are_truths left right) (is_sound left && is_sound right) rest in
          let parts = right_of (are_truths left right) (is_sound left && is_sound right) rest in
          let a = law left (left_of (is_sound left) (is_sound right) parts) (left_of (has_values left) (has_values right) v) in
          let b = law right (right_of (is_sound left) (is_sound right) parts) (right_of (has_values left) (has_values right) v) in
          and_node i left right (left_of (is_truth_info i) (are_truths left right && (is_sound left && is_sound right)) h) truths a b
      law (Or i left right) h v =
          let rest = right_of (is_truth_info i) (are_truths left right && (is_sound left && is_sound right)) h in
          let truths = left_of (are_truths left right) (is_sound left && is_sound right) rest in
          let parts = right_of (are_truths left right) (is_sound left && is_sound right) rest in
          let a = law left (left_of (is_sound left) (is_sound right) parts) (left_of (has_values left) (has_values right) v) in
          let b = law right (right_of (is_sound left) (is_sound right) parts) (right_of (has_values left) (has_values right) v) in
          or_node i left right (left_of (is_truth_info i) (are_truths left right && (is_sound left && is_sound right)) h) truths a b
      law (Implies i left right) h v =
          let rest = right_of (is_truth_info i) (are_truths left right && (is_sound left && is_sound right)) h in
          let truths = left_of (are_truths left right) (is_sound left && is_sound right) rest in
          let parts = right_of (are_truths left right) (is_sound left && is_sound right) rest in
          let a = law left (left_of (is_sound left) (is_sound right) parts) (left_of (has_values left) (has_values right) v) in
          let b = law right (right_of (is_sound left) (is_sound right) parts) (right_of (has_values left) (has_values right) v) in
          truth_node i (Flat.Either (Flat.Not (shape at left).rule) (shape at right).rule) (not (is_one (worth (seen at point) left)) || is_one (worth (seen at point) right))
          (truth_sized i (left_of (is_truth_info i) (are_truths left right && (is_sound left && is_sound right)) h))
          (ap₂ (λ p q. not p || q) (a.rule (truths_left left right truths)) (b.rule (truths_right left right truths)))
      law (Relation i sign left right) h v =
          let rest = right_of (is_truth_info i) ((fit_for sign left right && can_join left right) && (is_sound left && is_sound right)) h in
          let parts = right_of (fit_for sign left right && can_join left right) (is_sound left && is_sound right) rest in
          let a = law left (left_of (is_sound left) (is_sound right) parts) (left_of (has_values left) (has_values right) v) in
          let b = law right (right_of (is_sound left) (is_sound right) parts) (right_of (has_values left) (has_values right) v) in
          truth_node i (relation sign (shape at left) (shape at right)) (compares sign (worth (seen at point) left) (worth (seen at point) right))
          (truth_sized i (left_of (is_truth_info i) ((fit_for sign left right && can_join left right) && (is_sound left && is_sound right)) h))
          (common_law sign (shape at left).scale (shape at right).scale (shape at left).term (shape at right).term (worth (seen at point) left) (worth (seen at point) right)
          (above_of left a) (above_of right b) (terms_of left a) (terms_of right b))
      law (Within i left right) h v =
          let rest = right_of (is_truth_info i) (((is_range_or_list right && fits_in left right) && list_all (can_join left) (parts_of right)) && (is_sound left && is_sound right)) h in
          let parts = right_of ((is_range_or_list right && fits_in left right) && list_all (can_join left) (parts_of right)) (is_sound left && is_sound right) rest in
          let a = law left (left_of (is_sound left) (is_sound right) parts) (left_of (has_values left) (has_values right) v) in
          let b = law right (right_of (is_sound left) (is_sound right) parts) (right_of (has_values left) (has_values right) v) in
          truth_node i ((shape at right).holding (shape at left).scale (shape at left).term) (is_in (seen at point) (worth (seen at point) left) right)
          (truth_sized i (left_of (is_truth_info i) (((is_range_or_list right && fits_in left right) && list_all (can_join left) (parts_of right)) && (is_sound left && is_sound right)) h))
          (b.holding (shape at left).scale (shape at left).term (worth (seen at point) left) (above_of left a) (terms_of left a))

      row_law : (row : TypedRow) → are_sound row ≡ true → have_values row ≡ true → RowLaw row
      row_law End h v d term x p f = refl
      row_law (Item item others) h v d term x p f =
          let rest = right_of (is_scalar item) (is_sound item && are_sound others) h in
          let a = law item (left_of (is_sound item) (are_sound others) rest) (left_of (has_values item) (have_values others) v) in
          ap₂ (◌||◌) (common_law Compare.Equal d (shape at item).scale term (shape at item).term x (worth (seen at point) item) p (above_of item a) f (terms_of item a))
          (row_law others (right_of (is_sound item) (are_sound others) rest) (right_of (has_values item) (have_values others) v) d term x p f)
