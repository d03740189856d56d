-- An operator has a typed form exactly if it has no fault.
use Rattle.std.proofs.Common.{◌≡◌, ◌∙◌, refl, sym, Bool, true, false, cond, List, [], ◌∷◌, Option, Some, None, true≢false}
use Rattle.std.specs.Prelude.{◌||◌, ◌&&◌, not}
use Rattle.expr_nodes.specs.osc_base.declared.fault.Place.{Place}
use Rattle.expr_nodes.specs.osc_base.declared.fault.FaultCode.{FaultCode}
use Rattle.expr_nodes.specs.osc_base.declared.fault.Fault.{Fault}
use Rattle.expr_nodes.specs.osc_base.FaultRows.{FaultRow, row, is_before, first_of, first_from, first_fault}
use Rattle.expr_nodes.specs.units_si.ExponentTests.{are_exponents}
use Rattle.expr_nodes.specs.Kinds.{same_units}
use Rattle.expr_nodes.specs.Typed.{Typed, kind}
use Rattle.expr_nodes.specs.Sizes.{size, joined, multiplied, is_wide}
use Rattle.expr_nodes.specs.Parts.{any_holds, unless, of_two, is_whole, both_numbers}
use Rattle.expr_nodes.specs.Operators.{sum_rows, product_rows, product_exponents}

-- there is a fault
abbrev IsKept : Option Fault → Type 0
IsKept None = ⊥
IsKept (Some f) = Unit {0}

-- a first fault stays, or an earlier one takes its place
still : (f : Fault) (rows : List FaultRow) → IsKept (first_from (Some f) rows)
still f [] = tt
still f (r ∷ rs) = by (still f rs) (still r.fault rs) r.holds
  where
    of_two : IsKept (first_from (Some f) rs) → IsKept (first_from (Some r.fault) rs) → (b : Bool) → IsKept (first_from (cond b (Some r.fault) (Some f)) rs)
    of_two old new true = new
    of_two old new false = old

    by : IsKept (first_from (Some f) rs) → IsKept (first_from (Some r.fault) rs) → (b : Bool) → IsKept (first_from (first_of (Some f) (cond b (Some r.fault) None)) rs)
    by old new true = of_two old new (is_before r.fault f)
    by old new false = old

-- no fault, if none holds
quiet : (rows : List FaultRow) → any_holds rows ≡ false → first_fault rows ≡ None
quiet [] h = refl
quiet (r ∷ rs) h = by (quiet rs) r.holds h
  where
    by : (any_holds rs ≡ false → first_fault rs ≡ None) → (b : Bool) → (b || any_holds rs) ≡ false → first_from (cond b (Some r.fault) None) rs ≡ None
    by later true e = absurd (true≢false e)
    by later false e = later e

-- and one, if one holds
loud : (rows : List FaultRow) → any_holds rows ≡ true → IsKept (first_fault rows)
loud [] h = absurd (true≢false (sym h))
loud (r ∷ rs) h = by (loud rs) r.holds h
  where
    by : (any_holds rs ≡ true → IsKept (first_fault rs)) → (b : Bool) → (b || any_holds rs) ≡ true → IsKept (first_from (cond b (Some r.fault) None) rs)
    by later true e = still r.fault rs
    by later false e = later e

pub refused : (rows : List FaultRow) (made : Option Typed) (f : Fault) → Some f ≡ first_fault rows → None ≡ unless rows made
refused rows made f is = by (any_holds rows) refl
  where
    by : (b : Bool) → any_holds rows ≡ b → None ≡ cond b None made
    by true e = refl
    by false e = let same : Some f ≡ None = is ∙ quiet rows e in absurd (cc)

pub settled : (rows : List FaultRow) (made typed : Option Typed) → None ≡ first_fault rows → typed ≡ made → typed ≡ unless rows made
settled rows made typed is same = by (any_holds rows) refl
  where
    by : (b : Bool) → any_holds rows ≡ b → typed ≡ cond b None made
    by true e = let h : IsKept (first_fault rows) = loud rows e in absurd (rw (← is) at h)
    by false e = same

-- no row holds, if there is no fault
pub no_holds : (rows : List FaultRow) → None ≡ first_fault rows → any_holds rows ≡ false
no_holds rows is = by (any_holds rows) refl
  where
    by : (b : Bool) → any_holds rows ≡ b → b ≡ false
    by true e = let h : IsKept (first_fault rows) = loud rows e in absurd (rw (← is) at h)
    by false e = refl

-- the third of three rows doesn't hold, if there is no fault
no_third : (r s t : FaultRow) → None ≡ first_fault (r ∷ s ∷ t ∷ []) → t.holds ≡ false
no_third r s t is = by r.holds s.holds t.holds (no_holds (r ∷ s ∷ t ∷ []) is)
  where
    by : (a b c : Bool) → (a || (b || (c || false))) ≡ false → c ≡ false
    by a b false h = refl
    by true b true h = h
    by false true true h = h
    by false false true h = h

pub sum_narrow : (p : Place) (a b : Option Typed) → None ≡ first_fault (sum_rows p a b) → of_two a b (λ x y. is_wide (joined (size x) (size y))) ≡ false
sum_narrow p a b is = no_third
    (row p FaultCode.Clash (is_whole a || (is_whole b || of_two a b (λ x y. not (both_numbers x y)))))
    (row p FaultCode.UnitClash (of_two a b (λ x y. both_numbers x y && not (same_units (kind x) (kind y)))))
    (row p FaultCode.Wide (of_two a b (λ x y. is_wide (joined (size x) (size y)))))
    is

product_says : (left right both ok wide : Bool) → ((left || (right || not both)) || ((both && not ok) || (wide || false))) ≡ false → not ok ≡ false
product_says left right both true wide h = refl
product_says true right both false wide h = h
product_says false true both false wide h = h
product_says false false false false wide h = h
product_says false false true false wide h = h

pub product_limits : (p : Place) (a b : Option Typed) → None ≡ first_fault (product_rows p a b) → of_two a b (λ x y. not (are_exponents (product_exponents x y))) ≡ false
product_limits p None b is = refl
product_limits p (Some x) None is = refl
product_limits p (Some x) (Some y) is =
    product_says (is_whole (Some x)) (is_whole (Some y)) (both_numbers x y) (are_exponents (product_exponents x y)) (is_wide (multiplied (size x) (size y))) (no_holds (product_rows p (Some x) (Some y)) is)

pub product_narrow : (p : Place) (a b : Option Typed) → None ≡ first_fault (product_rows p a b) → of_two a b (λ x y. is_wide (multiplied (size x) (size y))) ≡ false
product_narrow p a b is = no_third
    (row p FaultCode.Clash (is_whole a || (is_whole b || of_two a b (λ x y. not (both_numbers x y)))))
    (row p FaultCode.UnitClash (of_two a b (λ x y. both_numbers x y && not (are_exponents (product_exponents x y)))))
    (row p FaultCode.Wide (of_two a b (λ x y. is_wide (multiplied (size x) (size y)))))
    is
