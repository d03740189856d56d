-- Runs of worked programs that are instances, and the nearest that aren't.
use Rattle.std.specs.Prelude.{◌≡◌, refl, ℕ, ◌+◌, ◌*◌, List, [], ◌∷◌, ◌++◌, Option, Some, codes, map, ℤ, pos, true, false, Bool}
use Rattle.std.specs.List.{range_with_len}
use Rattle.osc_base.specs.declared.sample.Sample.{Sample}
use Rattle.osc_base.specs.LowestTerms.{gcd, lcm}
use Rattle.osc_base.specs.Paths.{path_of, then_do}
use Rattle.type_heads.specs.DeclaredTypes.{types_of}
use Rattle.box_eval.specs.FlatRules.{holds_at}
use Rattle.field_flatten.specs.composition.declared.clause.Clause.{Clause}
use Rattle.field_flatten.specs.composition.declared.setting.Setting.{Setting}
use Rattle.field_flatten.specs.composition.declared.run.Run.{Run}
use Rattle.field_flatten.specs.Rules.{rules}
use Rattle.definition_rows.proofs.Makers.{at, within, of_top, name, member, index, root, ego, whole, part, chose, number, span, sample, trace, limits, values_only, checked, is_instance, fails, fails_at}
use Rattle.definition_rows.proofs.Sources.{single_value, no_value, import_cycle, cargo_truck, cargo_car, removed_before, removed_after, two_elements, overridden_argument}
use Rattle.definition_rows.proofs.VehicleSources.{kilometres_an_hour, other_name, not_chosen, robot, one_wait}
use Rattle.definition_rows.proofs.CutInSource.{cut_in}

-- ---- values

x_is : ℕ → Run
x_is n = values_only (number (name (codes "x") ∷ []) n ∷ [])

single_value_is_3 : checked single_value (within 100) (x_is 3) ≡ is_instance
unfolding x_is types_of gcd lcm
single_value_is_3 = refl

single_value_is_not_4 : checked single_value (within 100) (x_is 4) ≡ fails_at Clause.Hard root (at 0 3 5 9)
unfolding x_is types_of gcd lcm
single_value_is_not_4 = refl

-- from 0 to 5, above 3 and below 3: at each number some rule is false
truths : ℤ → Option (List Bool)
truths x = of_top no_value (within 100) (λ sc. map (holds_at (x ∷ [])) (rules sc))

no_value_at_2 : truths (pos 2) ≡ Some (true ∷ false ∷ true ∷ [])
unfolding truths types_of gcd lcm
no_value_at_2 = refl

no_value_at_3 : truths (pos 3) ≡ Some (true ∷ false ∷ false ∷ [])
unfolding truths types_of gcd lcm
no_value_at_3 = refl

no_value_at_6 : truths (pos 6) ≡ Some (false ∷ true ∷ false ∷ [])
unfolding truths types_of gcd lcm
no_value_at_6 = refl

-- all declarations of all files are seen everywhere
import_cycle_is_7 : checked import_cycle (within 100) (values_only (number (name (codes "x") ∷ name (codes "n") ∷ []) 7 ∷ [])) ≡ is_instance
unfolding types_of gcd lcm
import_cycle_is_7 = refl

import_cycle_is_not_8 :
    checked import_cycle (within 100) (values_only (number (name (codes "x") ∷ name (codes "n") ∷ []) 8 ∷ []))
    ≡ fails_at Clause.Hard (path_of (name (codes "x") ∷ [])) (at 1 4 9 15)
unfolding types_of gcd lcm
import_cycle_is_not_8 = refl

-- 30 kilometres an hour are 8.333 metres a second, to the nearest thousandth
speed_is : ℕ → Run
speed_is n = values_only (number (name (codes "s") ∷ []) n ∷ [])

kilometres_an_hour_is_8333 : checked kilometres_an_hour (within 100) (speed_is 8333) ≡ is_instance
unfolding speed_is types_of gcd lcm
kilometres_an_hour_is_8333 = refl

kilometres_an_hour_is_not_8334 : checked kilometres_an_hour (within 100) (speed_is 8334) ≡ fails_at Clause.Hard root (at 0 4 5 14)
unfolding speed_is types_of gcd lcm
kilometres_an_hour_is_not_8334 = refl

-- ---- conditional subtypes

kind_is : ℕ → Run
kind_is n = values_only (number (name (codes "b") ∷ name (codes "k") ∷ []) n ∷ [])

-- a truck has the members of the conditional subtype, with their constraints
loaded : ℕ → Run
loaded n = values_only (number (name (codes "b") ∷ name (codes "k") ∷ []) 1 ∷ number (name (codes "b") ∷ name (codes "load") ∷ []) n ∷ [])

truck_has_load : checked cargo_truck (within 100) (loaded 2) ≡ is_instance
unfolding loaded types_of gcd lcm
truck_has_load = refl

truck_load_is_2 : checked cargo_truck (within 100) (loaded 3) ≡ fails_at Clause.Hard (path_of (name (codes "b") ∷ [])) (at 0 6 9 38)
unfolding loaded types_of gcd lcm
truck_load_is_2 = refl

car_has_no_load : checked cargo_car (within 100) (kind_is 0) ≡ is_instance
unfolding kind_is types_of gcd lcm
car_has_no_load = refl

-- ---- defaults

n_is : ℕ → Run
n_is n = values_only (number (name (codes "i") ∷ name (codes "n") ∷ []) n ∷ [])

-- a `remove_default` overrides what stands before it alone
removed_before_keeps : checked removed_before (within 100) (n_is 5) ≡ fails_at Clause.Default (path_of (name (codes "i") ∷ [])) (at 0 5 5 29)
unfolding n_is types_of gcd lcm
removed_before_keeps = refl

removed_after_frees : checked removed_after (within 100) (n_is 5) ≡ is_instance
unfolding n_is types_of gcd lcm
removed_after_frees = refl

-- the elements of a list have defaults of their own
elements_are : ℕ → ℕ → Run
elements_are a b = values_only (number (name (codes "v") ∷ index 0 ∷ []) a ∷ number (name (codes "v") ∷ index 1 ∷ []) b ∷ [])

second_element_overridden : checked two_elements (within 100) (elements_are 4 6) ≡ is_instance
unfolding elements_are types_of gcd lcm
second_element_overridden = refl

first_element_stands : checked two_elements (within 100) (elements_are 5 6) ≡ fails_at Clause.Default root (at 0 2 23 12)
unfolding elements_are types_of gcd lcm
first_element_stands = refl

-- ---- arguments and other names

-- the invoked scenario's constraint is about the argument, and stands after the argument's default
load_is : ℕ → Run
load_is n = record (values_only (number (name (codes "mine") ∷ name (codes "load") ∷ []) n ∷ [])) { end = 1; phases = span whole 0 1 ∷ [] }

argument_overridden : checked overridden_argument (within 1) (load_is 3) ≡ is_instance
unfolding load_is types_of gcd lcm
argument_overridden = refl

argument_default_gone : checked overridden_argument (within 1) (load_is 5) ≡ fails_at Clause.Hard whole (at 0 5 5 21)
unfolding load_is types_of gcd lcm
argument_default_gone = refl

passed : ℕ → Run
passed speed = record {
  choices = [];
  end = 1;
  phases = span whole 0 1 ∷ span (then_do whole) 0 1 ∷ [];
  tick = 100;
  traces = trace ego (sample 1 0 0 ∷ sample 1 0 0 ∷ []) ∷ [];
  values = limits (codes "ego") speed 10000;
}

other_name_is_30 : checked other_name (within 1) (passed 30000) ≡ is_instance
unfolding passed types_of gcd lcm
other_name_is_30 = refl

other_name_is_not_50 : checked other_name (within 1) (passed 50000) ≡ fails_at Clause.Hard whole (at 0 4 5 14)
unfolding passed types_of gcd lcm
other_name_is_not_50 = refl

-- a constraint in an alternative that isn't chosen overrides nothing
chosen : ℕ → Run
chosen speed = record {
  choices = chose whole 1 ∷ [];
  end = 1;
  phases = span whole 0 1 ∷ span (part 1) 0 1 ∷ [];
  tick = 100;
  traces = trace ego (sample 1 0 0 ∷ sample 1 0 0 ∷ []) ∷ [];
  values = limits (codes "ego") speed 10000;
}

not_chosen_keeps_default : checked not_chosen (within 10) (chosen 50000) ≡ is_instance
unfolding chosen types_of gcd lcm
not_chosen_keeps_default = refl

not_chosen_overrides_nothing : checked not_chosen (within 10) (chosen 30000) ≡ fails_at Clause.Default ego (at 1 14 24 186)
unfolding chosen types_of gcd lcm
not_chosen_overrides_nothing = refl

-- ---- phases

-- an action of two ticks, then a wait of one
robot_run : ℕ → ℕ → Run
robot_run middle weight = record (values_only (number (name (codes "r") ∷ name (codes "load") ∷ []) 5 ∷ number (name (codes "do") ∷ member 0 ∷ name (codes "weight") ∷ []) weight ∷ [])) {
  end = 3;
  phases = span whole 0 3 ∷ span (part 0) 0 2 ∷ span (part 1) middle 3 ∷ [];
}

robot_goes_and_waits : checked robot (within 10) (robot_run 2 4) ≡ is_instance
unfolding robot_run types_of gcd lcm
robot_goes_and_waits = refl

-- a stated duration is asked for before the arrangement
robot_waits_too_long : checked robot (within 10) (robot_run 1 4) ≡ fails_at Clause.Hard (part 1) (at 0 12 22 75)
unfolding robot_run types_of gcd lcm
robot_waits_too_long = refl

-- ---- the length of a tick

waited : ℕ → ℕ → Run
waited tick end = record (values_only []) { tick = tick; end = end; phases = span whole 0 end ∷ [] }

half_ticks : Setting
half_ticks = record { ticks = 10; lanes = 3; road = 1000; tick = 50 }

one_tick_of_100 : checked one_wait (within 10) (waited 100 1) ≡ is_instance
unfolding waited types_of gcd lcm
one_tick_of_100 = refl

two_ticks_of_50 : checked one_wait half_ticks (waited 50 2) ≡ is_instance
unfolding waited half_ticks types_of gcd lcm
two_ticks_of_50 = refl

other_tick : checked one_wait (within 10) (waited 50 2) ≡ fails Clause.End whole
unfolding waited types_of gcd lcm
other_tick = refl

-- ---- vehicles

-- the run of the cut-in: ego drives 20 metres a second in lane 1, npc comes from 20 metres behind with 25 and changes to its lane at the end
ego_sample : ℕ → Sample
ego_sample t = sample 1 (100000000 + 2000000 * t) 20000

npc_sample : ℕ → Sample
npc_sample t = sample 2 (80000000 + 2500000 * t) 25000

npc : List ℕ
npc = codes "npc"

overtaken : Sample → Run
overtaken last = record {
  choices = [];
  end = 60;
  phases =
      span whole 0 60 ∷ span (part 0) 0 30
      ∷ span (path_of (name (codes "do") ∷ member 0 ∷ member 0 ∷ [])) 0 30 ∷ span (path_of (name (codes "do") ∷ member 0 ∷ member 1 ∷ [])) 0 30
      ∷ span (part 1) 30 60
      ∷ span (path_of (name (codes "do") ∷ member 1 ∷ member 0 ∷ [])) 30 60 ∷ span (path_of (name (codes "do") ∷ member 1 ∷ member 1 ∷ [])) 30 60
      ∷ [];
  tick = 100;
  traces =
      trace ego (map ego_sample (range_with_len 0 61))
      ∷ trace (path_of (name npc ∷ [])) (map npc_sample (range_with_len 0 60) ++ last ∷ [])
      ∷ [];
  values = limits (codes "ego") 50000 10000 ++ limits npc 50000 10000;
}

road_of_230 : Setting
road_of_230 = record { ticks = 60; lanes = 3; road = 230; tick = 100 }

cut_in_is_reached : checked cut_in road_of_230 (overtaken (sample 1 230000000 25000)) ≡ is_instance
unfolding overtaken ego_sample npc_sample npc road_of_230 types_of gcd lcm
cut_in_is_reached = refl
