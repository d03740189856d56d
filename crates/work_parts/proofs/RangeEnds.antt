-- The least and the greatest of a list, from the left, and what they leave out.
use Rattle.std.proofs.Common.{◌≡◌, ◌∙◌, sym, ap, refl, arith, ℤ, ℕ, pos, ◌-◌, ◌-ℤ◌, Bool, not, List, [], ◌∷◌, length}
use Rattle.std.specs.Prelude.{fold}
use Rattle.std.specs.Int.{int_min, int_max}
use Rattle.std.proofs.lemmas.Int.{ints, int_min_is, int_max_is}
use Rattle.osc_base.specs.Comparisons.{same_number}
use Rattle.expr_nodes.specs.type_heads.Bounds.{least_of, greatest_of}
use Rattle.object_works.specs.scene_expansion.composition.Ranges.{has_gap}

min_assoc : (a b c : ℤ) → int_min a (int_min b c) ≡ int_min (int_min a b) c
min_assoc a b c = omega (arith, ints, int_min_is a (int_min b c), int_min_is b c, int_min_is (int_min a b) c, int_min_is a b)

max_assoc : (a b c : ℤ) → int_max a (int_max b c) ≡ int_max (int_max a b) c
max_assoc a b c = omega (arith, ints, int_max_is a (int_max b c), int_max_is b c, int_max_is (int_max a b) c, int_max_is a b)

least_from : (n : ℤ) (ns : List ℤ) → fold int_min n ns ≡ least_of (n ∷ ns)
least_from n [] = refl
least_from n (m ∷ ms) = least_from (int_min n m) ms ∙ out ms
  where
    out : (ms : List ℤ) → least_of (int_min n m ∷ ms) ≡ int_min n (least_of (m ∷ ms))
    out [] = refl
    out (k ∷ ks) = sym (min_assoc n m (least_of (k ∷ ks)))

greatest_from : (n : ℤ) (ns : List ℤ) → fold int_max n ns ≡ greatest_of (n ∷ ns)
greatest_from n [] = refl
greatest_from n (m ∷ ms) = greatest_from (int_max n m) ms ∙ out ms
  where
    out : (ms : List ℤ) → greatest_of (int_max n m ∷ ms) ≡ int_max n (greatest_of (m ∷ ms))
    out [] = refl
    out (k ∷ ks) = sym (max_assoc n m (greatest_of (k ∷ ks)))

-- numbers with a first one
pub gap_from : (n : ℤ) (later numbers : List ℤ) (a b : ℤ) (more : ℕ) (spans : Bool) → numbers ≡ n ∷ later → a ≡ fold int_min n later → b ≡ fold int_max n later → more ≡ length later
    → spans ≡ not (same_number (b -ℤ a) (pos more)) → spans ≡ has_gap numbers
gap_from n later numbers a b more spans is least greatest count says =
    let one : more ≡ length (n ∷ later) - 1 = omega (arith, count) in
    says
    ∙ (λ i. not (same_number ((greatest ∙ greatest_from n later) i -ℤ (least ∙ least_from n later) i) (pos (one i))))
    ∙ ap has_gap (sym is)
