-- Tests: conjunctions, tests of lists, first entries, and paths.
use Rattle.std.proofs.Common.{◌≡◌, refl, sym, ap, ap₂, ◌∙◌, subst, ℕ, ◌⊎◌, inl, inr, List, [], ◌∷◌, ◌++◌, Bool, true, false, not, ◌&&◌, ◌||◌, cond, Some, None, map, arith, true≢false}
use Rattle.std.specs.Prelude.{filter, flat_map, find, nat_eq}
use Rattle.std.specs.List.{list_any, list_all}
use Rattle.std.proofs.lemmas.Slice.Eq.{bytes_eq-Decides}
use Rattle.osc_base.specs.declared.path.Path.{Path}
use Rattle.osc_base.specs.declared.path.Step.{Step}
use Rattle.osc_base.specs.declared.path.Step.TheVariants.{Name, Index, Member}
use Rattle.osc_base.specs.Paths.{same_step, same_steps, same_path}

-- ---- conjunctions

pub left_of : (a b : Bool) → a && b ≡ true → a ≡ true
left_of true b h = refl
left_of false b h = h

pub right_of : (a b : Bool) → a && b ≡ true → b ≡ true
right_of true b h = h
right_of false b h = absurd (true≢false (sym h))

pub both : (a b : Bool) → a ≡ true → b ≡ true → a && b ≡ true
both a b p q = rw (p, q) refl

-- one truth, each of which follows from the other
pub same_truth : (a b : Bool) → (a ≡ true → b ≡ true) → (b ≡ true → a ≡ true) → a ≡ b
same_truth true b f g = sym (f refl)
same_truth false true f g = g refl
same_truth false false f g = refl

-- under one condition both are one
pub under_one : (a b x y : Bool) → a ≡ b → (a ≡ true → x ≡ y) → not a || x ≡ not b || y
under_one true b x y e f = rw (← e) (f refl)
under_one false b x y e f = rw (← e) refl

pub contrary : (b : Bool) → b ≡ true → b ≡ false → {A : Type 0} → A
contrary b p q = absurd (true≢false (sym p ∙ q))

-- a stuck test in one of its two ways
pub two_ways : {A : Type 0} (b : Bool) → (b ≡ true → A) → (b ≡ false → A) → A
two_ways true f g = f refl
two_ways false f g = g refl

-- ---- members of lists

abbrev pub In : {A : Type 0} → A → List A → Type 0
In x [] = ⊥
In x (y ∷ ys) = (x ≡ y) ⊎ In x ys

module _ {A : Type 0} where
  pub in_left : (x : A) (xs ys : List A) → In x xs → In x (xs ++ ys)
  in_left x [] ys h = absurd h
  in_left x (y ∷ xs) ys (inl e) = inl e
  in_left x (y ∷ xs) ys (inr h) = inr (in_left x xs ys h)

  pub in_right : (x : A) (xs ys : List A) → In x ys → In x (xs ++ ys)
  in_right x [] ys h = h
  in_right x (y ∷ xs) ys h = inr (in_right x xs ys h)

  pub in_either : (x : A) (xs ys : List A) → In x (xs ++ ys) → In x xs ⊎ In x ys
  in_either x [] ys h = inr h
  in_either x (y ∷ xs) ys (inl e) = inl (inl e)
  in_either x (y ∷ xs) ys (inr h) = elim (in_either x xs ys h) as (λ _. In x (y ∷ xs) ⊎ In x ys) [ inl i ↦ inl (inr i) | inr j ↦ inr j ]

  module _ (test : A → Bool) where
    pub all_at : (xs : List A) → list_all test xs ≡ true → (x : A) → In x xs → test x ≡ true
    all_at [] h x i = absurd i
    all_at (y ∷ ys) h x (inl e) = rw e (left_of (test y) (list_all test ys) h)
    all_at (y ∷ ys) h x (inr i) = all_at ys (right_of (test y) (list_all test ys) h) x i

    pub all_from : (xs : List A) → ((x : A) → In x xs → test x ≡ true) → list_all test xs ≡ true
    all_from [] f = refl
    all_from (y ∷ ys) f = both (test y) (list_all test ys) (f y (inl refl)) (all_from ys (λ x i. f x (inr i)))

    pub any_at : (xs : List A) → list_any test xs ≡ true → (x : A) × In x xs × (test x ≡ true)
    any_at [] h = absurd (true≢false (sym h))
    any_at (y ∷ ys) h = by (test y) refl (any_at ys)
      where
        by : (b : Bool) → test y ≡ b → (list_any test ys ≡ true → (x : A) × In x ys × (test x ≡ true)) → (x : A) × In x (y ∷ ys) × (test x ≡ true)
        by true e f = (y, inl refl, e)
        by false e f = let g = f (rw e at h) in (g.0, inr g.1, g.2)

    pub any_from : (xs : List A) (x : A) → In x xs → test x ≡ true → list_any test xs ≡ true
    any_from [] x i h = absurd i
    any_from (y ∷ ys) x (inl e) h = let f : test y ≡ true = subst (λ z. test z ≡ true) e h in rw f refl
    any_from (y ∷ ys) x (inr i) h = by (test y) (any_from ys x i h)
      where
        by : (b : Bool) → list_any test ys ≡ true → b || list_any test ys ≡ true
        by true e = refl
        by false e = e

    pub all_append : (xs ys : List A) → list_all test (xs ++ ys) ≡ (list_all test xs && list_all test ys)
    all_append [] ys = refl
    all_append (x ∷ xs) ys = by (test x) (all_append xs ys)
      where
        by : (b : Bool) → list_all test (xs ++ ys) ≡ (list_all test xs && list_all test ys) → (b && list_all test (xs ++ ys)) ≡ ((b && list_all test xs) && list_all test ys)
        by true e = e
        by false e = refl

    pub any_append : (xs ys : List A) → list_any test (xs ++ ys) ≡ (list_any test xs || list_any test ys)
    any_append [] ys = refl
    any_append (x ∷ xs) ys = by (test x) (any_append xs ys)
      where
        by : (b : Bool) → list_any test (xs ++ ys) ≡ (list_any test xs || list_any test ys) → (b || list_any test (xs ++ ys)) ≡ ((b || list_any test xs) || list_any test ys)
        by true e = refl
        by false e = e

    pub in_filter : (xs : List A) (x : A) → In x (filter test xs) → In x xs × (test x ≡ true)
    in_filter [] x i = absurd i
    in_filter (y ∷ ys) x i = by (test y) refl i (in_filter ys x)
      where
        by : (b : Bool) → test y ≡ b → In x (cond b (y ∷ filter test ys) (filter test ys)) → (In x (filter test ys) → In x ys × (test x ≡ true)) → In x (y ∷ ys) × (test x ≡ true)
        by true e (inl same) f = (inl same, rw same e)
        by true e (inr j) f = let g = f j in (inr g.0, g.1)
        by false e j f = let g = f j in (inr g.0, g.1)

    pub filter_in : (xs : List A) (x : A) → In x xs → test x ≡ true → In x (filter test xs)
    filter_in [] x i h = absurd i
    filter_in (y ∷ ys) x (inl e) h = let f : test y ≡ true = subst (λ z. test z ≡ true) e h in rw f (inl e)
    filter_in (y ∷ ys) x (inr i) h = by (test y) (filter_in ys x i h)
      where
        by : (b : Bool) → In x (filter test ys) → In x (cond b (y ∷ filter test ys) (filter test ys))
        by true j = inr j
        by false j = j

  module _ (f g : A → Bool) where
    pub all_same : (xs : List A) → ((x : A) → In x xs → f x ≡ g x) → list_all f xs ≡ list_all g xs
    all_same [] h = refl
    all_same (x ∷ xs) h = ap₂ (◌&&◌) (h x (inl refl)) (all_same xs (λ y i. h y (inr i)))

    pub any_same : (xs : List A) → ((x : A) → In x xs → f x ≡ g x) → list_any f xs ≡ list_any g xs
    any_same [] h = refl
    any_same (x ∷ xs) h = ap₂ (◌||◌) (h x (inl refl)) (any_same xs (λ y i. h y (inr i)))

    pub filter_same : (xs : List A) → ((x : A) → In x xs → f x ≡ g x) → filter f xs ≡ filter g xs
    filter_same [] h = refl
    filter_same (x ∷ xs) h = ap₂ (λ b ys. cond b (x ∷ ys) ys) (h x (inl refl)) (filter_same xs (λ y i. h y (inr i)))

module _ {A B : Type 0} where
  pub in_map : (f : A → B) (xs : List A) (x : A) → In x xs → In (f x) (map f xs)
  in_map f [] x i = absurd i
  in_map f (y ∷ ys) x (inl e) = inl (ap f e)
  in_map f (y ∷ ys) x (inr i) = inr (in_map f ys x i)

  pub map_in : (f : A → B) (xs : List A) (y : B) → In y (map f xs) → (x : A) × In x xs × (y ≡ f x)
  map_in f [] y i = absurd i
  map_in f (x ∷ xs) y (inl e) = (x, inl refl, e)
  map_in f (x ∷ xs) y (inr i) = let g = map_in f xs y i in (g.0, inr g.1, g.2)

  pub in_flat_map : (f : A → List B) (xs : List A) (x : A) (y : B) → In x xs → In y (f x) → In y (flat_map f xs)
  in_flat_map f [] x y i j = absurd i
  in_flat_map f (z ∷ zs) x y (inl e) j = in_left y (f z) (flat_map f zs) (subst (λ w. In y (f w)) e j)
  in_flat_map f (z ∷ zs) x y (inr i) j = in_right y (f z) (flat_map f zs) (in_flat_map f zs x y i j)

  pub flat_map_in : (f : A → List B) (xs : List A) (y : B) → In y (flat_map f xs) → (x : A) × In x xs × In y (f x)
  flat_map_in f [] y i = absurd i
  flat_map_in f (x ∷ xs) y i = elim (in_either y (f x) (flat_map f xs) i) as (λ _. (z : A) × In z (x ∷ xs) × In y (f z)) [
    | inl j ↦ (x, inl refl, j)
    | inr j ↦ let g = flat_map_in f xs y j in (g.0, inr g.1, g.2)
  ]

  pub map_same : (f g : A → B) (xs : List A) → ((x : A) → In x xs → f x ≡ g x) → map f xs ≡ map g xs
  map_same f g [] h = refl
  map_same f g (x ∷ xs) h = ap₂ (◌∷◌) (h x (inl refl)) (map_same f g xs (λ y i. h y (inr i)))

  pub all_map : (test : B → Bool) (f : A → B) (xs : List A) → list_all test (map f xs) ≡ list_all (λ x. test (f x)) xs
  all_map test f [] = refl
  all_map test f (x ∷ xs) = ap (λ b. test (f x) && b) (all_map test f xs)

  pub any_map : (test : B → Bool) (f : A → B) (xs : List A) → list_any test (map f xs) ≡ list_any (λ x. test (f x)) xs
  any_map test f [] = refl
  any_map test f (x ∷ xs) = ap (λ b. test (f x) || b) (any_map test f xs)

-- ---- first entries

module _ {A : Type 0} (test : A → Bool) where
  pub found_in : (xs : List A) (x : A) → find test xs ≡ Some x → In x xs × (test x ≡ true)
  found_in [] x h = cc
  found_in (y ∷ ys) x h = by (test y) refl h (found_in ys x)
    where
      by : (b : Bool) → test y ≡ b → cond b (Some y) (find test ys) ≡ Some x → (find test ys ≡ Some x → In x ys × (test x ≡ true)) → In x (y ∷ ys) × (test x ≡ true)
      by true e is f = let same : x ≡ y = cc in (inl same, rw same e)
      by false e is f = let g = f is in (inr g.0, g.1)

  pub finds : (xs : List A) (x : A) → In x xs → test x ≡ true → (y : A) × (find test xs ≡ Some y)
  finds [] x i h = absurd i
  finds (y ∷ ys) x i h = by (test y) refl i (finds ys x)
    where
      by : (b : Bool) → test y ≡ b → In x (y ∷ ys) → (In x ys → test x ≡ true → (z : A) × (find test ys ≡ Some z)) → (z : A) × (cond b (Some y) (find test ys) ≡ Some z)
      by true e j f = (y, refl)
      by false e (inl same) f = contrary (test y) (subst (λ z. test z ≡ true) same h) e
      by false e (inr j) f = f j h

  pub found_none : (xs : List A) → list_any test xs ≡ false → find test xs ≡ None
  found_none [] h = refl
  found_none (y ∷ ys) h = by (test y) h (found_none ys)
    where
      by : (b : Bool) → b || list_any test ys ≡ false → (list_any test ys ≡ false → find test ys ≡ None) → cond b (Some y) (find test ys) ≡ None
      by true e f = absurd (true≢false e)
      by false e f = f e

-- ---- paths

pub number_is : (a b : ℕ) → nat_eq a b ≡ true → a ≡ b
number_is a b h = grind arith

pub number_self : (a : ℕ) → nat_eq a a ≡ true
number_self a = grind arith

step_is : (a b : Step) → same_step a b ≡ true → a ≡ b
step_is (Name a) (Name b) h = ap Name ((bytes_eq-Decides a b).0 h)
step_is (Index a) (Index b) h = ap Index (number_is a b h)
step_is (Member a) (Member b) h = ap Member (number_is a b h)
step_is (Name a) (Index b) h = absurd (true≢false (sym h))
step_is (Name a) (Member b) h = absurd (true≢false (sym h))
step_is (Index a) (Name b) h = absurd (true≢false (sym h))
step_is (Index a) (Member b) h = absurd (true≢false (sym h))
step_is (Member a) (Name b) h = absurd (true≢false (sym h))
step_is (Member a) (Index b) h = absurd (true≢false (sym h))

step_self : (a : Step) → same_step a a ≡ true
step_self (Name a) = (bytes_eq-Decides a a).1 refl
step_self (Index a) = number_self a
step_self (Member a) = number_self a

pub steps_are : (xs ys : List Step) → same_steps xs ys ≡ true → xs ≡ ys
steps_are [] [] h = refl
steps_are [] (y ∷ ys) h = absurd (true≢false (sym h))
steps_are (x ∷ xs) [] h = absurd (true≢false (sym h))
steps_are (x ∷ xs) (y ∷ ys) h = ap₂ (◌∷◌) (step_is x y (left_of (same_step x y) (same_steps xs ys) h)) (steps_are xs ys (right_of (same_step x y) (same_steps xs ys) h))

pub steps_self : (xs : List Step) → same_steps xs xs ≡ true
steps_self [] = refl
steps_self (x ∷ xs) = both (same_step x x) (same_steps xs xs) (step_self x) (steps_self xs)

pub path_is : (p q : Path) → same_path p q ≡ true → p ≡ q
path_is p q h = ap (λ steps. record { steps = steps }) (steps_are p.steps q.steps h)

pub path_self : (p : Path) → same_path p p ≡ true
path_self p = steps_self p.steps
