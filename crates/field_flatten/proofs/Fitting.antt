-- Terms and rules that read slots of a box alone and reach no further than a bound.
use Rattle.std.proofs.Common.{◌≡◌, ℕ, zero, suc, ◌+◌, ◌*◌, ◌≤◌, ◌<◌, max, refl, sym, subst, inl, inr, List, [], ◌∷◌, ◌++◌, length, arith}
use Rattle.std.specs.Prelude.{ℤ, pos, neg_ℤ, ◌+ℤ◌, ◌-ℤ◌, ◌≤ℤ◌, nat_eq, unsigned_abs}
use Rattle.std.proofs.lemmas.Int.{ints}
use Rattle.std.proofs.Math.Nat.{mul_comm, mul_assoc, mul-le-mul_left, mul-le-mul_right}
use Rattle.box_eval.specs.declared.bounds.Pair.{Pair}
use Rattle.box_eval.specs.Box.{low_at, high_at}
use Rattle.box_eval.specs.FlatRules.{FlatTerm, FlatRule, Whole, Slot, Sum, Less, Times, Truth, Always, Below, AtMost, Equal, Differ, Both, Either, Not, paired, joined_rounds, first_or, joined, all_of, any_of, under, times}
use Rattle.field_flatten.specs.Shapes.{sum_of, product_of}
use Rattle.field_flatten.proofs.Tests.{two_ways, number_is, In}
use Rattle.field_flatten.proofs.FlatReach.{term_slots, rule_slots, size, interval, term_far, rule_far}

module _ (ends : List Pair) (most : ℕ) where
  -- a term is at most m in magnitude, and reads and reaches what it may
  pub record Fits (term : FlatTerm) (m : ℕ) : Type 0 where
    pub slots : term_slots term ≤ length ends
    pub sized : size (interval ends term) ≤ m
    pub far : term_far ends term ≤ most

  pub record RuleFits (rule : FlatRule) : Type 0 where
    pub slots : rule_slots rule ≤ length ends
    pub far : rule_far ends rule ≤ most

  -- ---- terms

  pub weaker : (term : FlatTerm) (m n : ℕ) → m ≤ n → Fits term m → Fits term n
  weaker term m n h f = record { slots = f.slots; sized = omega (arith, f.sized); far = f.far }

  pub whole_fits : (z : ℤ) (m : ℕ) → unsigned_abs z ≤ m → m ≤ most → Fits (Whole z) m
  whole_fits z m h k = record { slots = omega arith; sized = omega arith; far = omega arith }

  pub slot_fits : (slot m : ℕ) → slot < length ends → unsigned_abs (low_at ends slot) ≤ m → unsigned_abs (high_at ends slot) ≤ m → m ≤ most → Fits (Slot slot) m
  slot_fits slot m h p q k = record { slots = omega arith; sized = omega arith; far = omega arith }

  abs_sum : (a b c d : ℤ) (m n : ℕ) → max (unsigned_abs a) (unsigned_abs b) ≤ m → max (unsigned_abs c) (unsigned_abs d) ≤ n → max (unsigned_abs (a +ℤ c)) (unsigned_abs (b +ℤ d)) ≤ m + n
  abs_sum a b c d m n h k = omega (arith, ints)

  abs_less : (a b c d : ℤ) (m n : ℕ) → max (unsigned_abs a) (unsigned_abs b) ≤ m → max (unsigned_abs c) (unsigned_abs d) ≤ n → max (unsigned_abs (a -ℤ d)) (unsigned_abs (b -ℤ c)) ≤ m + n
  abs_less a b c d m n h k = omega (arith, ints)

  pub sum_fits : (a b : FlatTerm) (m n : ℕ) → Fits a m → Fits b n → m + n ≤ most → Fits (Sum a b) (m + n)
  sum_fits a b m n f g h =
      let here = abs_sum (interval ends a).low (interval ends a).high (interval ends b).low (interval ends b).high m n f.sized g.sized in
      record { slots = omega (arith, f.slots, g.slots); sized = here; far = omega (arith, here, f.far, g.far) }

  pub less_fits : (a b : FlatTerm) (m n : ℕ) → Fits a m → Fits b n → m + n ≤ most → Fits (Less a b) (m + n)
  less_fits a b m n f g h =
      let here = abs_less (interval ends a).low (interval ends a).high (interval ends b).low (interval ends b).high m n f.sized g.sized in
      record { slots = omega (arith, f.slots, g.slots); sized = here; far = omega (arith, here, f.far, g.far) }

  -- two terms from 0 to m
  abs_gap : (a b c d : ℤ) (m : ℕ) → max (unsigned_abs a) (unsigned_abs b) ≤ m → max (unsigned_abs c) (unsigned_abs d) ≤ m → pos 0 ≤ℤ a → a ≤ℤ b → pos 0 ≤ℤ c → c ≤ℤ d
      → max (unsigned_abs (a -ℤ d)) (unsigned_abs (b -ℤ c)) ≤ m
  abs_gap a b c d m h k p q r s = omega (arith, ints)

  pub gap_fits : (a b : FlatTerm) (m : ℕ) → Fits a m → Fits b m → pos 0 ≤ℤ (interval ends a).low → (interval ends a).low ≤ℤ (interval ends a).high → pos 0 ≤ℤ (interval ends b).low
      → (interval ends b).low ≤ℤ (interval ends b).high → m ≤ most → Fits (Less a b) m
  gap_fits a b m f g p q r s h =
      let here = abs_gap (interval ends a).low (interval ends a).high (interval ends b).low (interval ends b).high m f.sized g.sized p q r s in
      record { slots = omega (arith, f.slots, g.slots); sized = here; far = omega (arith, here, f.far, g.far) }

  product_le : (a b m n : ℕ) → a ≤ m → b ≤ n → a * b ≤ m * n
  product_le a b m n h k = omega (arith, mul-le-mul_right b h, mul-le-mul_left m k)

  pub product_fits : (a b : FlatTerm) (m n : ℕ) → Fits a m → Fits b n → m * n ≤ most → Fits (Times a b) (m * n)
  product_fits a b m n f g h =
      let here = product_le (size (interval ends a)) (size (interval ends b)) m n f.sized g.sized in
      record { slots = omega (arith, f.slots, g.slots); sized = both_sides (size (interval ends a) * size (interval ends b)) (m * n) here; far = outer (size (interval ends a) * size (interval ends b)) (term_far ends a) (term_far ends b) (m * n) here h f.far g.far }
    where
      both_sides : (k l : ℕ) → k ≤ l → max (unsigned_abs (neg_ℤ (pos k))) (unsigned_abs (pos k)) ≤ l
      both_sides k l p = omega (arith, ints)

      outer : (k x y l : ℕ) → k ≤ l → l ≤ most → x ≤ most → y ≤ most → max (max (unsigned_abs (neg_ℤ (pos k))) (unsigned_abs (pos k))) (max x y) ≤ most
      outer k x y l p q r s = omega (arith, ints)

  pub times_fits : (k : ℕ) (term : FlatTerm) (m : ℕ) → 1 ≤ m → Fits term m → m * k ≤ most → Fits (times k term) (m * k)
  times_fits k term m one f h = two_ways (nat_eq k 1)
      (λ e. let same : k ≡ 1 = number_is k 1 e in let still : m ≤ m * k = subst (λ n. m ≤ m * n) (sym same) (omega arith) in rw e (weaker term m (m * k) still f))
      (λ e. let small : k ≤ m * k = omega (arith, mul-le-mul_right k one) in
      let own = product_fits (Whole (pos k)) term k m (whole_fits (pos k) k (omega arith) (omega arith)) f (subst (λ n. n ≤ most) (mul_comm m k) h) in
      rw e (subst (Fits (Times (Whole (pos k)) term)) (mul_comm k m) own))

  pub truth_fits : (rule : FlatRule) → 1 ≤ most → RuleFits rule → Fits (Truth rule) 1
  truth_fits rule h f = record { slots = f.slots; sized = omega (arith, ints); far = omega (arith, f.far) }

  -- ---- rules

  pub below_fits : (a b : FlatTerm) (m n : ℕ) → Fits a m → Fits b n → RuleFits (Below a b)
  below_fits a b m n f g = record { slots = omega (arith, f.slots, g.slots); far = omega (arith, f.far, g.far) }

  pub at_most_fits : (a b : FlatTerm) (m n : ℕ) → Fits a m → Fits b n → RuleFits (AtMost a b)
  at_most_fits a b m n f g = record { slots = omega (arith, f.slots, g.slots); far = omega (arith, f.far, g.far) }

  pub equal_fits : (a b : FlatTerm) (m n : ℕ) → Fits a m → Fits b n → RuleFits (Equal a b)
  equal_fits a b m n f g = record { slots = omega (arith, f.slots, g.slots); far = omega (arith, f.far, g.far) }

  pub differ_fits : (a b : FlatTerm) (m n : ℕ) → Fits a m → Fits b n → RuleFits (Differ a b)
  differ_fits a b m n f g = record { slots = omega (arith, f.slots, g.slots); far = omega (arith, f.far, g.far) }

  pub both_fits : (a b : FlatRule) → RuleFits a → RuleFits b → RuleFits (Both a b)
  both_fits a b f g = record { slots = omega (arith, f.slots, g.slots); far = omega (arith, f.far, g.far) }

  pub either_fits : (a b : FlatRule) → RuleFits a → RuleFits b → RuleFits (Either a b)
  either_fits a b f g = record { slots = omega (arith, f.slots, g.slots); far = omega (arith, f.far, g.far) }

  pub not_fits : (a : FlatRule) → RuleFits a → RuleFits (Not a)
  not_fits a f = record { slots = f.slots; far = f.far }

  pub always_fits : RuleFits Always
  always_fits = record { slots = omega arith; far = omega arith }

  -- ---- rows

  abbrev pub AllRules : List FlatRule → Type 0
  AllRules row = (r : FlatRule) → In r row → RuleFits r

  module _ (join : FlatRule → FlatRule → FlatRule) (keeps : (a b : FlatRule) → RuleFits a → RuleFits b → RuleFits (join a b)) where
    paired_fit : (row : List FlatRule) → AllRules row → AllRules (paired join row)
    paired_fit [] f r i = absurd i
    paired_fit (x ∷ []) f r i = f r i
    paired_fit (x ∷ y ∷ rest) f r (inl e) = subst RuleFits (sym e) (keeps x y (f x (inl refl)) (f y (inr (inl refl))))
    paired_fit (x ∷ y ∷ rest) f r (inr i) = paired_fit rest (λ s j. f s (inr (inr j))) r i

    rounds_fit : (n : ℕ) (row : List FlatRule) → AllRules row → AllRules (joined_rounds n join row)
    rounds_fit zero row f = f
    rounds_fit (suc n) row f = rounds_fit n (paired join row) (paired_fit row f)

    first_fits : (none : FlatRule) (row : List FlatRule) → RuleFits none → AllRules row → RuleFits (first_or none row)
    first_fits none [] h f = h
    first_fits none (x ∷ xs) h f = f x (inl refl)

    joined_fits : (none : FlatRule) (row : List FlatRule) → RuleFits none → AllRules row → RuleFits (joined join none row)
    joined_fits none row h f = first_fits none (joined_rounds (length row) join row) h (rounds_fit (length row) row f)

  pub all_fit : (row : List FlatRule) → AllRules row → RuleFits (all_of row)
  all_fit row f = joined_fits Both both_fits Always row always_fits f

  pub any_fits : (row : List FlatRule) → AllRules row → RuleFits (any_of row)
  any_fits row f = joined_fits Either either_fits (Not Always) row (not_fits Always always_fits) f

  pub under_fits : (row : List FlatRule) (rule : FlatRule) → AllRules row → RuleFits rule → RuleFits (under row rule)
  under_fits [] rule f g = g
  under_fits (r ∷ rs) rule f g = either_fits (Not (all_of (r ∷ rs))) rule (not_fits (all_of (r ∷ rs)) (all_fit (r ∷ rs) f)) g

  -- ---- rows of terms

  -- A first term within a, and others within b, that together are within m.
  pub record FirstFits (op : ℕ → ℕ → ℕ) (term : FlatTerm) (others : ℕ → Type 0) (m : ℕ) : Type 0 where
    pub a : ℕ
    pub b : ℕ
    pub one : 1 ≤ a
    pub fits : Fits term a
    pub rest : others b
    pub within : op a b ≤ m

  -- A row of terms that fit, and whose bounds make at most m.
  abbrev pub RowFits : (ℕ → ℕ → ℕ) → ℕ → List FlatTerm → ℕ → Type 0
  RowFits op unit [] m = unit ≤ m
  RowFits op unit (t ∷ ts) m = FirstFits op t (RowFits op unit ts) m

  module _ (join : FlatTerm → FlatTerm → FlatTerm) (none : FlatTerm) (op : ℕ → ℕ → ℕ) (unit : ℕ) (unit_small : unit ≤ 1) (unit_right : (a : ℕ) → op a unit ≡ a)
      (assoc : (a b c : ℕ) → op (op a b) c ≡ op a (op b c)) (more : (a b c : ℕ) → b ≤ c → op a b ≤ op a c) (more_left : (a b c : ℕ) → a ≤ b → op a c ≤ op b c)
      (left_in : (a b : ℕ) → unit ≤ b → a ≤ op a b) (right_in : (a b : ℕ) → unit ≤ a → b ≤ op a b) (ones : (a b : ℕ) → 1 ≤ a → 1 ≤ b → 1 ≤ op a b)
      (keeps : (a b : FlatTerm) (m n : ℕ) → Fits a m → Fits b n → op m n ≤ most → Fits (join a b) (op m n)) (none_fits : (m : ℕ) → unit ≤ m → m ≤ most → Fits none m) where
    row_floor : (row : List FlatTerm) (m : ℕ) → RowFits op unit row m → unit ≤ m
    row_floor [] m f = f
    row_floor (t ∷ ts) m f =
        let low = row_floor ts f.b f.rest in
        let over : f.a ≤ op f.a f.b = left_in f.a f.b low in
        omega (arith, f.one, f.within, over, unit_small)

    pub row_one : (t : FlatTerm) (m : ℕ) → 1 ≤ m → Fits t m → RowFits op unit (t ∷ []) m
    row_one t m one f = record { a = m; b = unit; one = one; fits = f; rest = omega arith; within = let is : op m unit ≡ m = unit_right m in omega (arith, is) }

    pub row_more : (row : List FlatTerm) (t : FlatTerm) (m n : ℕ) → RowFits op unit row m → 1 ≤ n → Fits t n → RowFits op unit (row ++ t ∷ []) (op m n)
    row_more [] t m n f one g =
        let is : op n unit ≡ n = unit_right n in
        let over : n ≤ op m n = right_in m n f in
        record { a = n; b = unit; one = one; fits = g; rest = omega arith; within = omega (arith, is, over) }
    row_more (x ∷ xs) t m n f one g = record {
      a = f.a;
      b = op f.b n;
      one = f.one;
      fits = f.fits;
      rest = row_more xs t f.b n f.rest one g;
      within = subst (λ k. k ≤ op m n) (assoc f.a f.b n) (more_left (op f.a f.b) m n f.within);
    }

    paired_row : (row : List FlatTerm) (m : ℕ) → m ≤ most → RowFits op unit row m → RowFits op unit (paired join row) m
    paired_row [] m h f = f
    paired_row (x ∷ []) m h f = f
    paired_row (x ∷ y ∷ rest) m h f =
        let g = f.rest in
        let step : op f.a (op g.a g.b) ≤ op f.a f.b = more f.a (op g.a g.b) f.b g.within in
        let total : op (op f.a g.a) g.b ≤ m = subst (λ k. k ≤ m) (sym (assoc f.a g.a g.b)) (omega (arith, step, f.within)) in
        let low : unit ≤ g.b = row_floor rest g.b g.rest in
        let first : op f.a g.a ≤ op (op f.a g.a) g.b = left_in (op f.a g.a) g.b low in
        let over : 1 ≤ op f.a g.a = ones f.a g.a f.one g.one in
        let last : g.b ≤ op (op f.a g.a) g.b = right_in (op f.a g.a) g.b (omega (arith, over, unit_small)) in
        record {
          a = op f.a g.a;
          b = g.b;
          one = over;
          fits = keeps x y f.a g.a f.fits g.fits (omega (arith, first, total, h));
          rest = paired_row rest g.b (omega (arith, last, total, h)) g.rest;
          within = total;
        }

    rounds_row : (n : ℕ) (row : List FlatTerm) (m : ℕ) → m ≤ most → RowFits op unit row m → RowFits op unit (joined_rounds n join row) m
    rounds_row zero row m h f = f
    rounds_row (suc n) row m h f = rounds_row n (paired join row) m h (paired_row row m h f)

    first_row : (row : List FlatTerm) (m : ℕ) → m ≤ most → RowFits op unit row m → Fits (first_or none row) m
    first_row [] m h f = none_fits m f h
    first_row (x ∷ xs) m h f = let over : f.a ≤ op f.a f.b = left_in f.a f.b (row_floor xs f.b f.rest) in weaker x f.a m (omega (arith, over, f.within)) f.fits

    pub row_fits : (row : List FlatTerm) (m : ℕ) → m ≤ most → RowFits op unit row m → Fits (joined join none row) m
    row_fits row m h f = first_row (joined_rounds (length row) join row) m h (rounds_row (length row) row m h f)

  -- ---- sums

  abbrev pub SumFits : List FlatTerm → ℕ → Type 0
  SumFits = RowFits (◌+◌) 0

  module _ (row : List FlatTerm) (m : ℕ) where
    plus_assoc : (a b c : ℕ) → (a + b) + c ≡ a + (b + c)
    plus_assoc a b c = omega arith

    plus_more : (a b c : ℕ) → b ≤ c → a + b ≤ a + c
    plus_more a b c h = omega arith

    plus_more_left : (a b c : ℕ) → a ≤ b → a + c ≤ b + c
    plus_more_left a b c h = omega arith

    plus_unit : (a : ℕ) → a + 0 ≡ a
    plus_unit a = omega arith

    pub sum_one : (t : FlatTerm) → 1 ≤ m → Fits t m → SumFits (t ∷ []) m
    sum_one t = row_one Sum (Whole (pos 0)) (◌+◌) 0 (omega arith) plus_unit plus_assoc plus_more plus_more_left (λ a b h. omega arith) (λ a b h. omega arith) (λ a b h k. omega arith)
        (λ a b k l f g h. sum_fits a b k l f g h) (λ k h l. whole_fits (pos 0) k (omega (arith, ints)) l) t m

    pub sum_more : (t : FlatTerm) (n : ℕ) → SumFits row m → 1 ≤ n → Fits t n → SumFits (row ++ t ∷ []) (m + n)
    sum_more t n = row_more Sum (Whole (pos 0)) (◌+◌) 0 (omega arith) plus_unit plus_assoc plus_more plus_more_left (λ a b h. omega arith) (λ a b h. omega arith) (λ a b h k. omega arith)
        (λ a b k l f g h. sum_fits a b k l f g h) (λ k h l. whole_fits (pos 0) k (omega (arith, ints)) l) row t m n

    pub sum_row : m ≤ most → SumFits row m → Fits (sum_of row) m
    sum_row = row_fits Sum (Whole (pos 0)) (◌+◌) 0 (omega arith) plus_unit plus_assoc plus_more plus_more_left (λ a b h. omega arith) (λ a b h. omega arith) (λ a b h k. omega arith)
        (λ a b k l f g h. sum_fits a b k l f g h) (λ k h l. whole_fits (pos 0) k (omega (arith, ints)) l) row m

  -- ---- products

  abbrev pub ProductFits : List FlatTerm → ℕ → Type 0
  ProductFits = RowFits (◌*◌) 1

  module _ (row : List FlatTerm) (m : ℕ) where
    times_unit : (a : ℕ) → a * 1 ≡ a
    times_unit a = omega arith

    times_more : (a b c : ℕ) → b ≤ c → a * b ≤ a * c
    times_more a b c h = mul-le-mul_left a h

    times_more_left : (a b c : ℕ) → a ≤ b → a * c ≤ b * c
    times_more_left a b c h = mul-le-mul_right c h

    times_left_in : (a b : ℕ) → 1 ≤ b → a ≤ a * b
    times_left_in a b h = let step : a * 1 ≤ a * b = mul-le-mul_left a h in omega arith

    times_right_in : (a b : ℕ) → 1 ≤ a → b ≤ a * b
    times_right_in a b h = let step : 1 * b ≤ a * b = mul-le-mul_right b h in omega arith

    times_ones : (a b : ℕ) → 1 ≤ a → 1 ≤ b → 1 ≤ a * b
    times_ones a b h k = let step : a ≤ a * b = times_left_in a b k in omega arith

    pub product_one : (t : FlatTerm) → 1 ≤ m → Fits t m → ProductFits (t ∷ []) m
    product_one t = row_one Times (Whole (pos 1)) (◌*◌) 1 (omega arith) times_unit mul_assoc times_more times_more_left times_left_in times_right_in times_ones
        (λ a b k l f g h. product_fits a b k l f g h) (λ k h l. whole_fits (pos 1) k (omega (arith, ints)) l) t m

    pub product_more : (t : FlatTerm) (n : ℕ) → ProductFits row m → 1 ≤ n → Fits t n → ProductFits (row ++ t ∷ []) (m * n)
    product_more t n = row_more Times (Whole (pos 1)) (◌*◌) 1 (omega arith) times_unit mul_assoc times_more times_more_left times_left_in times_right_in times_ones
        (λ a b k l f g h. product_fits a b k l f g h) (λ k h l. whole_fits (pos 1) k (omega (arith, ints)) l) row t m n

    pub product_row : m ≤ most → ProductFits row m → Fits (product_of row) m
    product_row = row_fits Times (Whole (pos 1)) (◌*◌) 1 (omega arith) times_unit mul_assoc times_more times_more_left times_left_in times_right_in times_ones
        (λ a b k l f g h. product_fits a b k l f g h) (λ k h l. whole_fits (pos 1) k (omega (arith, ints)) l) row m
