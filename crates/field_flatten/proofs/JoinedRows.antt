-- Rows of rules, and rules under conditions.
use Rattle.std.proofs.Common.{◌≡◌, ℕ, zero, suc, ◌≤◌, refl, sym, ap, ap₂, ◌∙◌, List, [], ◌∷◌, ◌++◌, length, Bool, true, false, ◌&&◌, ◌||◌, not, arith}
use Rattle.std.specs.Prelude.{ℤ, pos, ◌+ℤ◌, ◌*ℤ◌, nat_eq}
use Rattle.std.specs.List.{list_any, list_all}
use Rattle.std.proofs.lemmas.Int.{ints}
use Rattle.osc_base.proofs.Integers.{assoc}
use Rattle.box_eval.specs.FlatRules.{FlatTerm, FlatRule, Sum, Times, Whole, Always, Both, Either, Not, paired, joined_rounds, first_or, joined, all_of, any_of, under, times, holds_at, worth_at}
use Rattle.field_flatten.specs.Shapes.{sum_of, product_of}
use Rattle.field_flatten.proofs.Tests.{two_ways}

-- ---- what joins keep

module _ {X V : Type 0} (join : X → X → X) (none : X) (op : V → V → V) (unit : V) (seen : X → V) where
  abbrev pub total : List X → V
  total [] = unit
  total (x ∷ xs) = op (seen x) (total xs)

  pair_length : (row : List X) (n : ℕ) → length row ≤ suc (suc n) → length (paired join row) ≤ suc n
  pair_length [] n h = omega arith
  pair_length (x ∷ []) n h = omega arith
  pair_length (x ∷ y ∷ []) n h = omega arith
  pair_length (x ∷ y ∷ z ∷ rest) zero h = absurd (omega arith)
  pair_length (x ∷ y ∷ z ∷ rest) (suc n) h = let rec = pair_length (z ∷ rest) n (omega arith) in omega arith

  rounds_length : (n : ℕ) (row : List X) → length row ≤ suc n → length (joined_rounds n join row) ≤ 1
  rounds_length zero row h = h
  rounds_length (suc n) row h = rounds_length n (paired join row) (pair_length row n h)

  module _ (unit_left : (v : V) → op unit v ≡ v) (unit_right : (v : V) → op v unit ≡ v) (assoc : (u v w : V) → op (op u v) w ≡ op u (op v w)) (through : (x y : X) → seen (join x y) ≡ op (seen x) (seen y))
      (of_none : seen none ≡ unit) where
    pair_total : (row : List X) → total (paired join row) ≡ total row
    pair_total [] = refl
    pair_total (x ∷ []) = refl
    pair_total (x ∷ y ∷ rest) = ap₂ op (through x y) (pair_total rest) ∙ assoc (seen x) (seen y) (total rest)

    rounds_total : (n : ℕ) (row : List X) → total (joined_rounds n join row) ≡ total row
    rounds_total zero row = refl
    rounds_total (suc n) row = rounds_total n (paired join row) ∙ pair_total row

    -- a row with one more at its end
    pub more_total : (row : List X) (x : X) → total (row ++ x ∷ []) ≡ op (total row) (seen x)
    more_total [] x = unit_right (seen x) ∙ sym (unit_left (seen x))
    more_total (y ∷ ys) x = ap (op (seen y)) (more_total ys x) ∙ sym (assoc (seen y) (total ys) (seen x))

    first_total : (row : List X) → length row ≤ 1 → seen (first_or none row) ≡ total row
    first_total [] h = of_none
    first_total (x ∷ []) h = sym (unit_right (seen x))
    first_total (x ∷ y ∷ rest) h = absurd (omega arith)

    pub joined_total : (row : List X) → seen (joined join none row) ≡ total row
    joined_total row = first_total (joined_rounds (length row) join row) (rounds_length (length row) row (omega arith)) ∙ rounds_total (length row) row

-- ---- rules

module _ (point : List ℤ) where
  and_unit : (b : Bool) → (b && true) ≡ b
  and_unit true = refl
  and_unit false = refl

  or_unit : (b : Bool) → (b || false) ≡ b
  or_unit true = refl
  or_unit false = refl

  and_assoc : (a b c : Bool) → ((a && b) && c) ≡ (a && (b && c))
  and_assoc true b c = refl
  and_assoc false b c = refl

  or_assoc : (a b c : Bool) → ((a || b) || c) ≡ (a || (b || c))
  or_assoc true b c = refl
  or_assoc false b c = refl

  all_total : (row : List FlatRule) → total Both Always (◌&&◌) true (holds_at point) row ≡ list_all (holds_at point) row
  all_total [] = refl
  all_total (r ∷ rs) = ap (λ b. holds_at point r && b) (all_total rs)

  any_total : (row : List FlatRule) → total Either (Not Always) (◌||◌) false (holds_at point) row ≡ list_any (holds_at point) row
  any_total [] = refl
  any_total (r ∷ rs) = ap (λ b. holds_at point r || b) (any_total rs)

  pub all_holds : (row : List FlatRule) → holds_at point (all_of row) ≡ list_all (holds_at point) row
  all_holds row = joined_total Both Always (◌&&◌) true (holds_at point) (λ b. refl) and_unit and_assoc (λ a b. refl) refl row ∙ all_total row

  pub any_holds : (row : List FlatRule) → holds_at point (any_of row) ≡ list_any (holds_at point) row
  any_holds row = joined_total Either (Not Always) (◌||◌) false (holds_at point) (λ b. refl) or_unit or_assoc (λ a b. refl) refl row ∙ any_total row

  pub all_more : (row : List FlatRule) (rule : FlatRule) → list_all (holds_at point) (row ++ rule ∷ []) ≡ list_all (holds_at point) row && holds_at point rule
  all_more row rule = sym (all_total (row ++ rule ∷ [])) ∙ more_total Both Always (◌&&◌) true (holds_at point) (λ b. refl) and_unit and_assoc (λ a b. refl) refl row rule
      ∙ ap (λ b. b && holds_at point rule) (all_total row)

  pub any_more : (row : List FlatRule) (rule : FlatRule) → list_any (holds_at point) (row ++ rule ∷ []) ≡ list_any (holds_at point) row || holds_at point rule
  any_more row rule = sym (any_total (row ++ rule ∷ [])) ∙ more_total Either (Not Always) (◌||◌) false (holds_at point) (λ b. refl) or_unit or_assoc (λ a b. refl) refl row rule
      ∙ ap (λ b. b || holds_at point rule) (any_total row)

  -- ---- sums and products

  plus_left : (z : ℤ) → pos 0 +ℤ z ≡ z
  plus_left z = omega (arith, ints)

  plus_right : (z : ℤ) → z +ℤ pos 0 ≡ z
  plus_right z = omega (arith, ints)

  plus_assoc : (a b c : ℤ) → (a +ℤ b) +ℤ c ≡ a +ℤ (b +ℤ c)
  plus_assoc a b c = omega (arith, ints)

  times_left : (z : ℤ) → pos 1 *ℤ z ≡ z
  times_left z = omega (arith, ints)

  times_right : (z : ℤ) → z *ℤ pos 1 ≡ z
  times_right z = omega (arith, ints)

  abbrev pub sum_total : List FlatTerm → ℤ
  sum_total row = total Sum (Whole (pos 0)) (◌+ℤ◌) (pos 0) (worth_at point) row

  abbrev pub product_total : List FlatTerm → ℤ
  product_total row = total Times (Whole (pos 1)) (◌*ℤ◌) (pos 1) (worth_at point) row

  pub sum_worth : (row : List FlatTerm) → worth_at point (sum_of row) ≡ sum_total row
  sum_worth row = joined_total Sum (Whole (pos 0)) (◌+ℤ◌) (pos 0) (worth_at point) plus_left plus_right plus_assoc (λ a b. refl) refl row

  pub sum_more : (row : List FlatTerm) (term : FlatTerm) → sum_total (row ++ term ∷ []) ≡ sum_total row +ℤ worth_at point term
  sum_more row term = more_total Sum (Whole (pos 0)) (◌+ℤ◌) (pos 0) (worth_at point) plus_left plus_right plus_assoc (λ a b. refl) refl row term

  pub sum_alone : (term : FlatTerm) → worth_at point term ≡ sum_total (term ∷ [])
  sum_alone term = sym (plus_right (worth_at point term))

  pub product_worth : (row : List FlatTerm) → worth_at point (product_of row) ≡ product_total row
  product_worth row = joined_total Times (Whole (pos 1)) (◌*ℤ◌) (pos 1) (worth_at point) times_left times_right assoc (λ a b. refl) refl row

  pub product_more : (row : List FlatTerm) (term : FlatTerm) → product_total (row ++ term ∷ []) ≡ product_total row *ℤ worth_at point term
  product_more row term = more_total Times (Whole (pos 1)) (◌*ℤ◌) (pos 1) (worth_at point) times_left times_right assoc (λ a b. refl) refl row term

  pub product_alone : (term : FlatTerm) → worth_at point term ≡ product_total (term ∷ [])
  product_alone term = sym (times_right (worth_at point term))

  pub under_holds : (row : List FlatRule) (rule : FlatRule) → holds_at point (under row rule) ≡ not (list_all (holds_at point) row) || holds_at point rule
  under_holds [] rule = refl
  under_holds (r ∷ rs) rule = ap (λ b. not b || holds_at point rule) (all_holds (r ∷ rs))

  once : (z : ℤ) → z ≡ pos 1 *ℤ z
  once z = omega (arith, ints)

  pub times_worth : (n : ℕ) (term : FlatTerm) → worth_at point (times n term) ≡ pos n *ℤ worth_at point term
  times_worth n term = two_ways (nat_eq n 1)
      (λ e. let same : 1 ≡ n = grind arith in rw e (once (worth_at point term) ∙ ap (λ k. pos k *ℤ worth_at point term) same))
      (λ e. rw e refl)
