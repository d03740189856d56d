-- At a place after the first fault so far, no other fault counts.
use Rattle.std.proofs.Common.{◌≡◌, ap, refl, ℕ, Bool, true, false, cond, Option, Some, None, ◌&&◌, ◌||◌, nat_eq, arith, sym, true≢false}
use Rattle.std.specs.Prelude.{nat_lt}
use Rattle.std.proofs.lemmas.Bool.Decides.{nat_tests}
use Rattle.type_heads.specs.osc_base.declared.fault.Place.{Place}
use Rattle.type_heads.specs.osc_base.declared.fault.FaultCode.{FaultCode}
use Rattle.type_heads.specs.osc_base.declared.fault.Fault.{Fault}
use Rattle.type_heads.specs.osc_base.FaultRows.{first_of, row, row_fault}
use Rattle.fault_sets.specs.Passing.{is_past}

not_before : (a b n m : ℕ) (c : Bool) → (nat_lt b a || (nat_eq b a && nat_lt m n)) ≡ true → (nat_lt a b || (nat_eq a b && (nat_lt n m || (nat_eq n m && c)))) ≡ false
not_before a b n m c h = grind (arith, nat_tests)

pub first_stays : (first : Option Fault) (place : Place) (code : FaultCode) (holds : Bool) → is_past first place ≡ true → first_of first (row_fault (row place code holds)) ≡ first
first_stays None place code holds h = absurd (true≢false (sym h))
first_stays (Some f) place code false h = refl
first_stays (Some f) place code true h =
    let g : Fault = record { place = place; code = code } in
    ap (λ b. cond b (Some g) (Some f)) (not_before place.file f.place.file place.token f.place.token _ h)
