-- What an expression is worth depends on the paths that it reads alone.
use Rattle.std.proofs.Common.{◌≡◌, ℕ, refl, sym, ap, ap₂, ◌∙◌, subst, inl, inr, List, ◌++◌, Bool, true, ◌&&◌, ◌||◌, not, Option, Some, true≢false}
use Rattle.std.specs.Prelude.{ℤ, pos, is_some, unwrap_or}
use Rattle.std.specs.List.{list_all}
use Rattle.osc_base.specs.declared.path.Path.{Path}
use Rattle.osc_base.specs.Number.{Number, plus, product}
use Rattle.osc_base.specs.Comparisons.{is_same, is_between}
use Rattle.composition.specs.expr_nodes.Kinds.{is_number}
use Rattle.composition.specs.expr_nodes.Typed.{Typed, Info, Constant, Read, Whole, Listed, Span, Minus, Not, Sum, Times, And, Or, Implies, Relation, Within, TypedRow, End, Item, reads, reads_of}
use Rattle.composition.specs.expr_nodes.Value.{opposite, of_truth, is_one, compares, worth, is_in, is_item, value}
use Rattle.composition.specs.expr_nodes.Sound.{each_read, each_read_of}
use Rattle.field_flatten.specs.Seen.{has_values, have_values}
use Rattle.field_flatten.proofs.Tests.{left_of, right_of, In, in_left, in_right, in_either, all_from}

module _ (held other : Path → ℤ) where
  abbrev pub Agree : List Path → Type 0
  Agree paths = (p : Path) → In p paths → held p ≡ other p

  first : (xs ys : List Path) → Agree (xs ++ ys) → Agree xs
  first xs ys f p i = f p (in_left p xs ys i)

  second : (xs ys : List Path) → Agree (xs ++ ys) → Agree ys
  second xs ys f p i = f p (in_right p xs ys i)

  mutual
    pub worth_same : (t : Typed) → Agree (reads t) → worth held t ≡ worth other t
    worth_same (Constant i number) f = refl
    worth_same (Read i path per) f = ap (λ n. record { numerator = n; denominator = pos per }) (f path (inl refl))
    worth_same (Whole i path) f = refl
    worth_same (Listed i is_field items) f = refl
    worth_same (Span i low high) f = refl
    worth_same (Minus i part) f = ap opposite (worth_same part f)
    worth_same (Not i part) f = ap (λ x. of_truth (not (is_one x))) (worth_same part f)
    worth_same (Sum i left right) f = ap₂ plus (worth_same left (first (reads left) (reads right) f)) (worth_same right (second (reads left) (reads right) f))
    worth_same (Times i left right) f = ap₂ product (worth_same left (first (reads left) (reads right) f)) (worth_same right (second (reads left) (reads right) f))
    worth_same (And i left right) f = ap₂ (λ x y. of_truth (is_one x && is_one y)) (worth_same left (first (reads left) (reads right) f)) (worth_same right (second (reads left) (reads right) f))
    worth_same (Or i left right) f = ap₂ (λ x y. of_truth (is_one x || is_one y)) (worth_same left (first (reads left) (reads right) f)) (worth_same right (second (reads left) (reads right) f))
    worth_same (Implies i left right) f =
        ap₂ (λ x y. of_truth (not (is_one x) || is_one y)) (worth_same left (first (reads left) (reads right) f)) (worth_same right (second (reads left) (reads right) f))
    worth_same (Relation i sign left right) f =
        ap₂ (λ x y. of_truth (compares sign x y)) (worth_same left (first (reads left) (reads right) f)) (worth_same right (second (reads left) (reads right) f))
    worth_same (Within i left right) f =
        ap (λ x. of_truth (is_in held x right)) (worth_same left (first (reads left) (reads right) f))
        ∙ ap of_truth (in_same right (worth other left) (second (reads left) (reads right) f))

    in_same : (t : Typed) (x : Number) → Agree (reads t) → is_in held x t ≡ is_in other x t
    in_same (Span i low high) x f =
        ap₂ (λ a b. is_between a b x) (worth_same low (first (reads low) (reads high) f)) (worth_same high (second (reads low) (reads high) f))
    in_same (Listed i is_field items) x f = item_same items x f
    in_same (Constant i number) x f = refl
    in_same (Read i path per) x f = refl
    in_same (Whole i path) x f = refl
    in_same (Minus i part) x f = refl
    in_same (Not i part) x f = refl
    in_same (Sum i left right) x f = refl
    in_same (Times i left right) x f = refl
    in_same (And i left right) x f = refl
    in_same (Or i left right) x f = refl
    in_same (Implies i left right) x f = refl
    in_same (Relation i sign left right) x f = refl
    in_same (Within i left right) x f = refl

    item_same : (row : TypedRow) (x : Number) → Agree (reads_of row) → is_item held x row ≡ is_item other x row
    item_same End x f = refl
    item_same (Item item others) x f =
        ap₂ (λ a b. is_same x a || b) (worth_same item (first (reads item) (reads_of others) f)) (item_same others x (second (reads item) (reads_of others) f))

-- the value, if each path that is read holds a number
pub value_is : (held : Path → Option ℤ) (other : Path → ℤ) (t : Typed) → ((p : Path) → In p (reads t) → held p ≡ Some (other p)) → value held t ≡ Some (worth other t)
value_is held other t f =
    let all : list_all (λ p. is_some (held p)) (reads t) ≡ true = all_from (λ p. is_some (held p)) (reads t) (λ p i. ap is_some (f p i)) in
    rw all (ap Some (worth_same (λ p. unwrap_or (held p) (pos 0)) other t (λ p i. ap (λ o. unwrap_or o (pos 0)) (f p i))))

-- ---- each path that is read passes a test

module _ (test : Info → Path → ℕ → Bool) where
  abbrev pub Passes : Path → Type 0
  Passes p = (i : Info) × (per : ℕ) × (test i p per ≡ true)

  two : (l r : Bool) (xs ys : List Path) (p : Path) → l && r ≡ true → In p (xs ++ ys) → (l ≡ true → In p xs → Passes p) → (r ≡ true → In p ys → Passes p) → Passes p
  two l r xs ys p h i f g = elim (in_either p xs ys i) as (λ _. Passes p) [ inl j ↦ f (left_of l r h) j | inr j ↦ g (right_of l r h) j ]

  mutual
    pub passes : (t : Typed) → each_read test t ≡ true → has_values t ≡ true → (p : Path) → In p (reads t) → Passes p
    passes (Constant i number) h v p j = absurd j
    passes (Read i path per) h v p (inl e) = (i, per, subst (λ q. test i q per ≡ true) (sym e) h)
    passes (Read i path per) h v p (inr j) = absurd j
    passes (Whole i path) h v p j = absurd (true≢false (sym v))
    passes (Listed i is_field items) h v p j = row_passes items h v p j
    passes (Span i low high) h v p j =
        two (each_read test low) (each_read test high) (reads low) (reads high) p h j (λ e k. passes low e (left_of (has_values low) (has_values high) v) p k) (λ e k. passes high e (right_of (has_values low) (has_values high) v) p k)
    passes (Minus i part) h v p j = passes part h v p j
    passes (Not i part) h v p j = passes part h v p j
    passes (Sum i left right) h v p j =
        two (each_read test left) (each_read test right) (reads left) (reads right) p h j (λ e k. passes left e (left_of (has_values left) (has_values right) v) p k) (λ e k. passes right e (right_of (has_values left) (has_values right) v) p k)
    passes (Times i left right) h v p j =
        let w = right_of (is_number i.kind) (has_values left && has_values right) v in
        two (each_read test left) (each_read test right) (reads left) (reads right) p h j (λ e k. passes left e (left_of (has_values left) (has_values right) w) p k) (λ e k. passes right e (right_of (has_values left) (has_values right) w) p k)
    passes (And i left right) h v p j =
        two (each_read test left) (each_read test right) (reads left) (reads right) p h j (λ e k. passes left e (left_of (has_values left) (has_values right) v) p k) (λ e k. passes right e (right_of (has_values left) (has_values right) v) p k)
    passes (Or i left right) h v p j =
        two (each_read test left) (each_read test right) (reads left) (reads right) p h j (λ e k. passes left e (left_of (has_values left) (has_values right) v) p k) (λ e k. passes right e (right_of (has_values left) (has_values right) v) p k)
    passes (Implies i left right) h v p j =
        two (each_read test left) (each_read test right) (reads left) (reads right) p h j (λ e k. passes left e (left_of (has_values left) (has_values right) v) p k) (λ e k. passes right e (right_of (has_values left) (has_values right) v) p k)
    passes (Relation i sign left right) h v p j =
        two (each_read test left) (each_read test right) (reads left) (reads right) p h j (λ e k. passes left e (left_of (has_values left) (has_values right) v) p k) (λ e k. passes right e (right_of (has_values left) (has_values right) v) p k)
    passes (Within i left right) h v p j =
        two (each_read test left) (each_read test right) (reads left) (reads right) p h j (λ e k. passes left e (left_of (has_values left) (has_values right) v) p k) (λ e k. passes right e (right_of (has_values left) (has_values right) v) p k)

    row_passes : (row : TypedRow) → each_read_of test row ≡ true → have_values row ≡ true → (p : Path) → In p (reads_of row) → Passes p
    row_passes End h v p j = absurd j
    row_passes (Item item others) h v p j =
        two (each_read test item) (each_read_of test others) (reads item) (reads_of others) p h j (λ e k. passes item e (left_of (has_values item) (have_values others) v) p k)
        (λ e k. row_passes others e (right_of (has_values item) (have_values others) v) p k)
