-- Faults as a set, and the first of them.
--
-- The set is written as a list of rows: a fault, and whether it is there.
use Rattle.std.specs.Prelude.{◌≡◌, ◌<◌, ◌≤◌, ◌⊎◌, ◌&&◌, ◌||◌, ℕ, Bool, true, cond, List, [], ◌∷◌, Option, Some, None, nat_lt, nat_eq}
use Rattle.osc_base.specs.declared.fault.Place.{Place}
use Rattle.osc_base.specs.declared.fault.FaultCode.{FaultCode}
use Rattle.osc_base.specs.declared.fault.Fault.{Fault}
use Rattle.osc_base.specs.FaultCodes.{number_of}

pub record FaultRow : Type 0 where
  pub fault : Fault
  pub holds : Bool

-- the fault of a code at a place, which is there when the condition holds
abbrev pub row : Place → FaultCode → Bool → FaultRow
row place code holds = record { fault = record { place = place; code = code }; holds = holds }

-- the fault is one of those that are there
abbrev pub IsFault : List FaultRow → Fault → Type 0
IsFault [] f = ⊥
IsFault (r ∷ rs) f = ((r.holds ≡ true) × (f ≡ r.fault)) ⊎ IsFault rs f

-- the order of faults in one file: by the number of the place, then by the number of the code
abbrev pub IsNoLater : ℕ → FaultCode → ℕ → FaultCode → Type 0
IsNoLater n code m other = (n < m) ⊎ ((n ≡ m) × (number_of code ≤ number_of other))

-- the order of faults: by file, then by token, then by code
abbrev pub Precedes : Fault → Fault → Type 0
Precedes f g =
    (f.place.file < g.place.file)
    ⊎ ((f.place.file ≡ g.place.file) × IsNoLater f.place.token f.code g.place.token g.code)

-- a first one of those of which P holds; none if P holds of none
abbrev pub IsFirst : (Fault → Type 0) → Option Fault → Type 0
IsFirst P None = (f : Fault) → P f → ⊥
IsFirst P (Some f) = P f × ((g : Fault) → P g → Precedes f g)

-- the first, found by going through the list: a fault takes the place of an earlier one that it comes before
abbrev pub is_before : Fault → Fault → Bool
is_before f g =
    nat_lt f.place.file g.place.file
    || (nat_eq f.place.file g.place.file && (nat_lt f.place.token g.place.token
    || (nat_eq f.place.token g.place.token && nat_lt (number_of f.code) (number_of g.code))))

abbrev pub first_of : Option Fault → Option Fault → Option Fault
first_of None b = b
first_of (Some f) None = Some f
first_of (Some f) (Some g) = cond (is_before g f) (Some g) (Some f)

abbrev pub row_fault : FaultRow → Option Fault
row_fault r = cond r.holds (Some r.fault) None

abbrev pub first_from : Option Fault → List FaultRow → Option Fault
first_from first [] = first
first_from first (r ∷ rs) = first_from (first_of first (row_fault r)) rs

abbrev pub first_fault : List FaultRow → Option Fault
first_fault rows = first_from None rows
