-- Parts of the scenes of worked programs, and their flat forms.
use Rattle.std.specs.Prelude.{◌≡◌, refl, ℕ, List, [], ◌∷◌, Some, codes, map, pos}
use Rattle.osc_base.specs.declared.path.Path.{Path}
use Rattle.osc_base.specs.declared.listing.SlotName.{SlotName}
use Rattle.osc_base.specs.declared.listing.RuleName.{RuleName}
use Rattle.osc_base.specs.LowestTerms.{gcd, lcm}
use Rattle.osc_base.specs.Paths.{path_of, then_name}
use Rattle.type_heads.specs.DeclaredTypes.{types_of}
use Rattle.keep_rules.specs.Overriding.{overriders}
use Rattle.box_eval.specs.Box.{pair}
use Rattle.box_eval.specs.FlatRules.{Whole, Slot, Less, Times, Always, AtMost, Equal, Both, Either, Not}
use Rattle.field_flatten.specs.composition.declared.guard.Guard.{Guard}
use Rattle.field_flatten.specs.composition.declared.setting.Setting.{Setting}
use Rattle.field_flatten.specs.composition.declared.spot.PhaseKind.{PhaseKind}
use Rattle.field_flatten.specs.composition.declared.run.Run.{Run}
use Rattle.field_flatten.specs.composition.Scenes.{choices, values, phases, vehicles, guards, marks, OfValue}
use Rattle.field_flatten.specs.composition.Slots.{slot_names}
use Rattle.field_flatten.specs.composition.Items.{rule_names}
use Rattle.field_flatten.specs.composition.Homes.{home_of}
use Rattle.field_flatten.specs.composition.Expanded.{scene}
use Rattle.field_flatten.specs.composition.Invariants.{IsScene}
use Rattle.field_flatten.specs.Ends.{slot_in, bounds}
use Rattle.field_flatten.specs.Shapes.{Layout}
use Rattle.field_flatten.specs.Rules.{rules, kind_rules}
use Rattle.field_flatten.specs.Points.{run_of, point_of}
use Rattle.definition_rows.proofs.Makers.{at, within, of_top, name, ego, whole, part, chose, span, sample, trace, limits}
use Rattle.definition_rows.proofs.Sources.{cargo_truck, removed_before}
use Rattle.definition_rows.proofs.VehicleSources.{one_vehicle, other_name, not_chosen, one_wait}

abbrev under_b : List ℕ → Path
under_b field = path_of (name (codes "b") ∷ name field ∷ [])

-- ---- conditions

-- the load of a cargo is there if its kind is `truck`
load_is_conditional : of_top cargo_truck (within 100) (λ sc. guards sc (under_b (codes "load"))) ≡ Some (Guard.Value (under_b (codes "k")) (pos 1) ∷ [])
unfolding types_of gcd lcm
load_is_conditional = refl

-- a member of a `one_of` is there if it was chosen
member_is_chosen : of_top not_chosen (within 10) (λ sc. guards sc (part 1)) ≡ Some (Guard.Choice whole 1 ∷ [])
unfolding types_of gcd lcm
member_is_chosen = refl

-- ---- spots

value_paths : of_top cargo_truck (within 100) (λ sc. map (λ v. v.path) (values sc)) ≡ Some (under_b (codes "k") ∷ under_b (codes "load") ∷ [])
unfolding types_of gcd lcm
value_paths = refl

one_choice : of_top not_chosen (within 10) choices ≡ Some (record { path = whole; members = 2 } ∷ [])
unfolding types_of gcd lcm
one_choice = refl

three_phases :
    of_top not_chosen (within 10) phases
    ≡ Some (record { path = whole; kind = PhaseKind.OneOf; members = part 0 ∷ part 1 ∷ [] }
    ∷ record { path = part 0; kind = PhaseKind.Action; members = [] }
    ∷ record { path = part 1; kind = PhaseKind.Wait; members = [] }
    ∷ [])
unfolding types_of gcd lcm
three_phases = refl

-- a parameter that is another name of a vehicle is no vehicle of its own
one_vehicle_alone : of_top other_name (within 1) vehicles ≡ Some (ego ∷ [])
unfolding types_of gcd lcm
one_vehicle_alone = refl

-- ---- homes

car_speed : Path
car_speed = path_of (name (codes "do") ∷ name (codes "car") ∷ name (codes "max_speed") ∷ [])

home_of_car : of_top other_name (within 1) (λ sc. home_of sc car_speed) ≡ Some (Some (then_name ego (codes "max_speed")))
unfolding car_speed types_of gcd lcm
home_of_car = refl

-- ---- overriding

-- the constraint on `car` overrides the default of ego's greatest speed: the first two are those of `max_speed`, the last is that of `pass`
speed_marks :
    of_top other_name (within 1) (λ sc. overriders (marks sc) 1) ≡ Some (4 ∷ [])
unfolding types_of gcd lcm
speed_marks = refl

-- nothing stands after the default
default_stands : of_top removed_before (within 100) (λ sc. overriders (marks sc) 2) ≡ Some []
unfolding types_of gcd lcm
default_stands = refl

-- ---- flat forms

fifty : Setting
fifty = record { ticks = 10; lanes = 3; road = 1000; tick = 50 }

-- a tenth of a second is 100 thousandths, and a tick has 50
wait_rules :
    of_top one_wait fifty rules
    ≡ Some (Equal (Times (Whole (pos 50)) (Less (Slot 1) (Slot 0))) (Whole (pos 100))
    ∷ Both (AtMost (Slot 0) (Slot 1)) (Equal (Slot 0) (Whole (pos 0)))
    ∷ [])
unfolding fifty types_of gcd lcm
wait_rules = refl

wait_slots : of_top one_wait fifty slot_names ≡ Some (SlotName.Start whole ∷ SlotName.End whole ∷ [])
unfolding fifty types_of gcd lcm
wait_slots = refl

wait_bounds : of_top one_wait fifty bounds ≡ Some (pair (pos 0) (pos 10) ∷ pair (pos 0) (pos 10) ∷ [])
unfolding fifty types_of gcd lcm
wait_bounds = refl

-- the slots of a whole and its two members
of_two : Layout
of_two = record {
  slot = slot_in (SlotName.Start whole ∷ SlotName.End whole ∷ SlotName.Start (part 0) ∷ SlotName.End (part 0) ∷ SlotName.Start (part 1) ∷ SlotName.End (part 1) ∷ []);
  source = λ path. OfValue;
  end = Slot 1;
  tick = 100;
}

-- each member has the span of the whole
equal_rules :
    kind_rules PhaseKind.Equal of_two whole (part 0 ∷ part 1 ∷ [])
    ≡ Equal (Slot 2) (Slot 0) ∷ Equal (Slot 4) (Slot 0) ∷ Equal (Slot 3) (Slot 1) ∷ Equal (Slot 5) (Slot 1) ∷ []
unfolding of_two
equal_rules = refl

-- each member starts with the whole, which ends with the last
start_rules :
    kind_rules PhaseKind.Start of_two whole (part 0 ∷ part 1 ∷ [])
    ≡ Equal (Slot 2) (Slot 0) ∷ Equal (Slot 4) (Slot 0)
    ∷ AtMost (Slot 3) (Slot 1) ∷ AtMost (Slot 5) (Slot 1) ∷ Either (Equal (Slot 3) (Slot 1)) (Equal (Slot 5) (Slot 1)) ∷ []
unfolding of_two
start_rules = refl

-- a whole starts with the first member, and each ends with it
end_rules :
    kind_rules PhaseKind.End of_two whole (part 0 ∷ part 1 ∷ [])
    ≡ AtMost (Slot 0) (Slot 2) ∷ AtMost (Slot 0) (Slot 4) ∷ Either (Equal (Slot 2) (Slot 0)) (Equal (Slot 4) (Slot 0))
    ∷ Equal (Slot 3) (Slot 1) ∷ Equal (Slot 5) (Slot 1) ∷ []
unfolding of_two
end_rules = refl

-- a whole without members is never arranged
no_member_rules : kind_rules PhaseKind.Equal of_two whole [] ≡ Not Always ∷ Not Always ∷ []
unfolding of_two
no_member_rules = refl

-- the constraints of the library's fields, the phase, the modifier and the motion at both ticks
drive_rules :
    of_top one_vehicle (within 1) rule_names
    ≡ Some (RuleName.Hard (at 1 15 9 191)
    ∷ RuleName.Default (at 1 14 24 186)
    ∷ RuleName.Hard (at 1 17 9 212)
    ∷ RuleName.Default (at 1 16 38 207)
    ∷ RuleName.Arranged whole
    ∷ RuleName.Modifier (at 0 5 9 24) 0
    ∷ RuleName.Modifier (at 0 5 9 24) 1
    ∷ RuleName.Motion ego 0
    ∷ RuleName.Motion ego 1
    ∷ [])
unfolding types_of gcd lcm
drive_rules = refl

-- ---- runs and points

waits : Run
waits = record {
  choices = chose whole 1 ∷ [];
  end = 1;
  phases = span whole 0 1 ∷ span (part 1) 0 1 ∷ [];
  tick = 100;
  traces = trace ego (sample 1 0 0 ∷ sample 1 0 0 ∷ []) ∷ [];
  values = limits (codes "ego") 50000 10000;
}

-- the run of a run's point is that run
run_of_point : of_top not_chosen (within 10) (λ sc. run_of sc (point_of sc waits)) ≡ Some waits
unfolding waits types_of gcd lcm
run_of_point = refl

-- ---- what holds of every scene

-- the scenario is type 5, after the basic types
pub not_chosen_is_scene : IsScene (scene (types_of not_chosen) 5 (within 10))
unfolding types_of gcd lcm
not_chosen_is_scene = record {
  spots_grounded = refl;
  occurrences_grounded = refl;
  modifiers_grounded = refl;
  choices_distinct = refl;
  values_distinct = refl;
  phases_distinct = refl;
  vehicles_distinct = refl;
  members = refl;
  nested = refl;
  whole = refl;
  choices_full = refl;
  ranges = refl;
  limited = refl;
  texts = refl;
  occurrences = refl;
  modifiers = refl;
  setting = refl;
  few_slots = refl;
  few_rules = refl;
}
