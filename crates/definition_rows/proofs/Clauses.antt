-- A run for each clause that fails it, as the first that it fails.
use Rattle.std.specs.Prelude.{◌≡◌, refl, ℕ, [], ◌∷◌, codes}
use Rattle.osc_base.specs.LowestTerms.{gcd, lcm}
use Rattle.osc_base.specs.Paths.{path_of}
use Rattle.type_heads.specs.DeclaredTypes.{types_of}
use Rattle.field_flatten.specs.composition.declared.clause.Clause.{Clause}
use Rattle.field_flatten.specs.composition.declared.run.Run.{Run}
use Rattle.definition_rows.proofs.Makers.{at, within, name, member, root, ego, whole, part, number, span, sample, trace, limits, values_only, checked, is_instance, fails, fails_at}
use Rattle.definition_rows.proofs.Sources.{single_value, cargo_truck, cargo_car, removed_before}
use Rattle.definition_rows.proofs.VehicleSources.{one_vehicle, robot, one_wait}

-- ---- listed

-- a truck without the load that it has
load_missing :
    checked cargo_truck (within 100) (values_only (number (name (codes "b") ∷ name (codes "k") ∷ []) 1 ∷ []))
    ≡ fails Clause.Listed (path_of (name (codes "b") ∷ name (codes "load") ∷ []))
unfolding types_of gcd lcm
load_missing = refl

-- a value that the scenario doesn't have
value_too_many :
    checked single_value (within 100) (values_only (number (name (codes "x") ∷ []) 3 ∷ number (name (codes "y") ∷ []) 3 ∷ []))
    ≡ fails Clause.Listed (path_of (name (codes "y") ∷ []))
unfolding types_of gcd lcm
value_too_many = refl

-- ---- end

-- without a `do` a run ends at tick 0
ends_late :
    checked single_value (within 100) (record (values_only (number (name (codes "x") ∷ []) 3 ∷ [])) { end = 1 })
    ≡ fails Clause.End root
unfolding types_of gcd lcm
ends_late = refl

-- ---- bounds

beyond_bounds :
    checked single_value (within 100) (values_only (number (name (codes "x") ∷ []) 1000000001 ∷ []))
    ≡ fails Clause.Bounds (path_of (name (codes "x") ∷ []))
unfolding types_of gcd lcm
beyond_bounds = refl

no_member :
    checked cargo_car (within 100) (values_only (number (name (codes "b") ∷ name (codes "k") ∷ []) 2 ∷ []))
    ≡ fails Clause.Bounds (path_of (name (codes "b") ∷ name (codes "k") ∷ []))
unfolding types_of gcd lcm
no_member = refl

-- ---- hard

-- the robot's load is less than the weight
too_heavy :
    checked robot (within 10)
    (record (values_only (number (name (codes "r") ∷ name (codes "load") ∷ []) 5 ∷ number (name (codes "do") ∷ member 0 ∷ name (codes "weight") ∷ []) 6 ∷ [])) {
      end = 3;
      phases = span whole 0 3 ∷ span (part 0) 0 2 ∷ span (part 1) 2 3 ∷ [];
    })
    ≡ fails_at Clause.Hard (part 0) (at 0 6 5 26)
unfolding types_of gcd lcm
too_heavy = refl

-- ---- default

default_ignored :
    checked removed_before (within 100) (values_only (number (name (codes "i") ∷ name (codes "n") ∷ []) 5 ∷ []))
    ≡ fails_at Clause.Default (path_of (name (codes "i") ∷ [])) (at 0 5 5 29)
unfolding types_of gcd lcm
default_ignored = refl

-- ---- arranged

-- the `do` of the named scenario starts at tick 0
starts_late :
    checked one_wait (within 100) (record (values_only []) { end = 2; phases = span whole 1 2 ∷ [] })
    ≡ fails Clause.Arranged whole
unfolding types_of gcd lcm
starts_late = refl

-- ---- modifier and motion

-- a vehicle at 10 metres a second for a tick, with the speed that it starts with, where that takes it, and the speed that it ends with
driven : ℕ → ℕ → ℕ → Run
driven first position last = record {
  choices = [];
  end = 1;
  phases = span whole 0 1 ∷ [];
  tick = 100;
  traces = trace ego (sample 1 0 first ∷ sample 1 position last ∷ []) ∷ [];
  values = limits (codes "ego") 50000 10000;
}

drives : checked one_vehicle (within 1) (driven 10000 1000000 10000) ≡ is_instance
unfolding driven types_of gcd lcm
drives = refl

drives_too_slowly : checked one_vehicle (within 1) (driven 9999 999900 10000) ≡ fails_at Clause.Modifier whole (at 0 5 9 24)
unfolding driven types_of gcd lcm
drives_too_slowly = refl

-- in a tenth of a second the speed changes by at most a tenth of the greatest acceleration
speeds_up : checked one_vehicle (within 1) (driven 10000 1000000 11000) ≡ is_instance
unfolding driven types_of gcd lcm
speeds_up = refl

speeds_up_too_much : checked one_vehicle (within 1) (driven 10000 1000000 11001) ≡ fails Clause.Motion ego
unfolding driven types_of gcd lcm
speeds_up_too_much = refl
