-- The first fault of rows that are joined.
use Rattle.std.proofs.Common.{◌≡◌, ◌∙◌, refl, sym, ap, Bool, true, false, cond, List, [], ◌∷◌, ◌++◌, Option, Some, None, arith, true≢false}
use Rattle.std.proofs.lemmas.Bool.Decides.{nat_tests}
use Rattle.expr_nodes.specs.osc_base.declared.fault.Fault.{Fault}
use Rattle.expr_nodes.specs.osc_base.FaultRows.{FaultRow, is_before, first_of, row_fault, first_from, first_fault}
use Rattle.expr_nodes.proofs.of_osc_base.FaultRows.{first_from_joined}

-- of three faults, the first comes before the last if it comes before the second, and the second before the last
before_both : (f g h : Fault) → is_before h g ≡ true → is_before g f ≡ true → is_before h f ≡ true
before_both f g h p q = grind (arith, nat_tests)

after_both : (f g h : Fault) → is_before h g ≡ false → is_before g f ≡ false → is_before h f ≡ false
after_both f g h p q = grind (arith, nat_tests)

pub first_assoc : (a b c : Option Fault) → first_of (first_of a b) c ≡ first_of a (first_of b c)
first_assoc None b c = refl
first_assoc (Some f) None c = refl
first_assoc (Some f) (Some g) None = by (is_before g f)
  where
    by : (b : Bool) → first_of (cond b (Some g) (Some f)) None ≡ cond b (Some g) (Some f)
    by true = refl
    by false = refl
first_assoc (Some f) (Some g) (Some h) = by (is_before g f) (is_before h g) (is_before h f) refl refl refl
  where
    by : (first second third : Bool) → is_before g f ≡ first → is_before h g ≡ second → is_before h f ≡ third
        → first_of (cond first (Some g) (Some f)) (Some h) ≡ first_of (Some f) (cond second (Some h) (Some g))
    by true true true p q r = rw (q, r) refl
    by true true false p q r = absurd (true≢false (sym (before_both f g h q p) ∙ r))
    by true false third p q r = rw (p, q) refl
    by false true third p q r = refl
    by false false true p q r = absurd (true≢false (sym r ∙ after_both f g h q p))
    by false false false p q r = rw (p, r) refl

none_last : (a : Option Fault) → first_of a None ≡ a
none_last None = refl
none_last (Some f) = refl

from_is : (a : Option Fault) (rs : List FaultRow) → first_from a rs ≡ first_of a (first_fault rs)
from_is a [] = sym (none_last a)
from_is a (r ∷ rs) =
    from_is (first_of a (row_fault r)) rs
    ∙ first_assoc a (row_fault r) (first_fault rs)
    ∙ ap (first_of a) (sym (from_is (row_fault r) rs))

pub first_append : (xs ys : List FaultRow) → first_fault (xs ++ ys) ≡ first_of (first_fault xs) (first_fault ys)
first_append xs ys = first_from_joined None xs ys ∙ from_is (first_fault xs) ys
