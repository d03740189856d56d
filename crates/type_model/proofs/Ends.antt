-- The least and the greatest of a list, from the left.
use Rattle.std.proofs.Common.{◌≡◌, ◌∙◌, sym, ap, refl, arith, ℤ, List, [], ◌∷◌}
use Rattle.std.specs.Prelude.{fold}
use Rattle.std.specs.Int.{int_min, int_max}
use Rattle.std.proofs.lemmas.Int.{ints, int_min_is, int_max_is}
use Rattle.string_texts.specs.type_heads.Bounds.{least_of, greatest_of}

min_assoc : (a b c : ℤ) → int_min a (int_min b c) ≡ int_min (int_min a b) c
min_assoc a b c = omega (arith, ints, int_min_is a (int_min b c), int_min_is b c, int_min_is (int_min a b) c, int_min_is a b)

max_assoc : (a b c : ℤ) → int_max a (int_max b c) ≡ int_max (int_max a b) c
max_assoc a b c = omega (arith, ints, int_max_is a (int_max b c), int_max_is b c, int_max_is (int_max a b) c, int_max_is a b)

pub least_from : (n : ℤ) (ns : List ℤ) → fold int_min n ns ≡ least_of (n ∷ ns)
least_from n [] = refl
least_from n (m ∷ ms) = least_from (int_min n m) ms ∙ out ms
  where
    out : (ms : List ℤ) → least_of (int_min n m ∷ ms) ≡ int_min n (least_of (m ∷ ms))
    out [] = refl
    out (k ∷ ks) = sym (min_assoc n m (least_of (k ∷ ks)))

pub greatest_from : (n : ℤ) (ns : List ℤ) → fold int_max n ns ≡ greatest_of (n ∷ ns)
greatest_from n [] = refl
greatest_from n (m ∷ ms) = greatest_from (int_max n m) ms ∙ out ms
  where
    out : (ms : List ℤ) → greatest_of (int_max n m ∷ ms) ≡ int_max n (greatest_of (m ∷ ms))
    out [] = refl
    out (k ∷ ks) = sym (max_assoc n m (greatest_of (k ∷ ks)))

pub ends_of : (n : ℤ) (later numbers : List ℤ) (a b : ℤ) → numbers ≡ n ∷ later → a ≡ fold int_min n later → b ≡ fold int_max n later →
    ◌≡◌ {A = ℤ × ℤ} (a, b) (least_of numbers, greatest_of numbers)
ends_of n later numbers a b is least greatest =
    both (least ∙ least_from n later ∙ ap least_of (sym is)) (greatest ∙ greatest_from n later ∙ ap greatest_of (sym is))
  where
    both : {x y z w : ℤ} → x ≡ y → z ≡ w → ◌≡◌ {A = ℤ × ℤ} (x, z) (y, w)
    both p q = rw (p, q) refl
