-- A vehicle's rule at a tick is true at a point exactly if it moves as it may in the point's run.
use Rattle.std.proofs.Common.{◌≡◌, ℕ, ◌+◌, ◌<◌, ◌≤◌, refl, sym, ap, ap₂, ◌∙◌, List, [], ◌∷◌, ◌++◌, Bool, true, false, ◌&&◌, ◌||◌, not, cond, Option, Some, None, map, arith, true≢false}
use Rattle.std.specs.Prelude.{ℤ, pos, ◌+ℤ◌, int_le, int_lt, nat_lt, unwrap_or}
use Rattle.std.specs.Option.{option_map_or}
use Rattle.std.specs.List.{list_all}
use Rattle.std.proofs.lemmas.Int.{ints}
use Rattle.osc_base.specs.declared.path.Path.{Path}
use Rattle.osc_base.specs.declared.sample.Sample.{Sample}
use Rattle.osc_base.specs.declared.sample.SampleSlots.{SampleSlots}
use Rattle.osc_base.specs.declared.listing.SlotName.{SlotName}
use Rattle.osc_base.specs.Comparisons.{same_number}
use Rattle.osc_base.specs.Paths.{same_path}
use Rattle.box_eval.specs.FlatRules.{FlatTerm, FlatRule, AtMost, Below, Equal, Slot, Whole, Less, Sum, worth_at, holds_at, under, times}
use Rattle.composition.specs.declared.spot.ValueSpot.{ValueSpot}
use Rattle.composition.specs.declared.run.Run.{Run}
use Rattle.composition.specs.Scenes.{Scene, Source, OfRun, OfPhase, OfValue, source, guards, vehicles, max_speed, max_acceleration}
use Rattle.composition.specs.There.{is_there}
use Rattle.composition.specs.Movement.{Course, keeps_lane, is_step, moves}
use Rattle.composition.specs.Items.{still, sample_of, field_number, course_of, motion_holds}
use Rattle.composition.specs.Invariants.{same_guards, value_at, is_numeric, is_limit, is_limited}
use Rattle.field_flatten.specs.Shapes.{Layout}
use Rattle.field_flatten.specs.Points.{is_held, stands, sample_named, end_named}
use Rattle.field_flatten.specs.Rules.{end_term, presence_rules, sample_slots, value_term, one_more, step_rules, motion_parts, motion_rule}
use Rattle.field_flatten.specs.Exactness.{IsExpanded}
use Rattle.field_flatten.proofs.Tests.{left_of, right_of, two_ways, under_one, path_self, In, all_at, all_append, all_map, any_from}
use Rattle.field_flatten.proofs.Tests as T
use Rattle.field_flatten.proofs.JoinedRows.{all_holds, under_holds, times_worth}
use Rattle.field_flatten.proofs.NamedRun.{sample_there}
use Rattle.field_flatten.proofs.SlotLaw.{Inside}
use Rattle.field_flatten.proofs.NumberLaw.{at, lay, end_back, value_there}
use Rattle.field_flatten.proofs.ConstraintLaw.{run, rules_held, there_stands}
use Rattle.field_flatten.proofs.ArrangedLaw.{under_each, guards_are}

-- ---- steps at a point

module _ (point : List ℤ) (lay : Layout) where
  abbrev worth_of : FlatTerm → ℤ
  worth_of = worth_at point

  abbrev sample_at : SampleSlots → Sample
  sample_at s = record { lane = worth_of (Slot s.lane); position = worth_of (Slot s.position); speed = worth_of (Slot s.speed) }

  and_rows : (a b c d e : Bool) → (a && (b && (c && (d && (e && true))))) ≡ ((a && (b && c)) && (d && e))
  and_rows true true true true true = refl
  and_rows true true true true false = refl
  and_rows true true true false e = refl
  and_rows true true false d e = refl
  and_rows true false c d e = refl
  and_rows false b c d e = refl

  pub step_holds : (vehicle : Path) (now next : SampleSlots)
      → list_all (holds_at point) (step_rules lay vehicle now next) ≡ is_step lay.tick (worth_of (value_term lay (max_acceleration vehicle))) (sample_at now) (sample_at next)
  step_holds vehicle now next =
      and_rows (holds_at point (Equal (Slot next.position) (Sum (Slot now.position) (times lay.tick (Slot now.speed)))))
      (holds_at point (AtMost (Slot next.lane) (one_more (Slot now.lane)))) (holds_at point (AtMost (Slot now.lane) (one_more (Slot next.lane))))
      (holds_at point (AtMost (times 1000 (Less (Slot next.speed) (Slot now.speed))) (times lay.tick (value_term lay (max_acceleration vehicle)))))
      (holds_at point (AtMost (times 1000 (Less (Slot now.speed) (Slot next.speed))) (times lay.tick (value_term lay (max_acceleration vehicle)))))
      ∙ ap₂ (◌&&◌)
      (ap (λ z. same_number (worth_of (Slot next.position)) (worth_of (Slot now.position) +ℤ z) && keeps_lane (sample_at now) (sample_at next)) (times_worth point lay.tick (Slot now.speed)))
      (ap₂ (◌&&◌)
      (ap₂ int_le (times_worth point 1000 (Less (Slot next.speed) (Slot now.speed))) (times_worth point lay.tick (value_term lay (max_acceleration vehicle))))
      (ap₂ int_le (times_worth point 1000 (Less (Slot now.speed) (Slot next.speed))) (times_worth point lay.tick (value_term lay (max_acceleration vehicle)))))

-- ---- truths

two_conditions : (m a b : Bool) → (not (m && (a && true)) || b) ≡ (not m || (not a || b))
two_conditions true true b = refl
two_conditions true false b = refl
two_conditions false a b = refl

under_two : (m a b : Bool) → ((not m || a) && (not m || b)) ≡ (not m || (a && b))
under_two true a b = refl
under_two false a b = refl

under_third : (m t a b : Bool) → cond t (not m || (not a || b)) true ≡ (not m || (not t || (not a || b)))
under_third true true a b = refl
under_third true false a b = refl
under_third false true a b = refl
under_third false false a b = refl

-- ---- motion

module _ (scene : Scene) (point : List ℤ) (slot : SlotName → ℕ) (expanded : IsExpanded scene) (inside : Inside scene (at scene point slot)) where
  abbrev named : SlotName → ℤ
  named = at scene point slot

  abbrev layed : Layout
  layed = lay scene point slot

  abbrev runs : Run
  runs = run scene point slot expanded inside

  -- the course that a point gives
  abbrev course : Path → Course
  course vehicle = record {
    tick = scene.setting.tick;
    ticks = scene.setting.ticks;
    end = worth_at point (end_term scene slot);
    max_speed = named (SlotName.Value (max_speed vehicle));
    max_acceleration = named (SlotName.Value (max_acceleration vehicle));
    sample = sample_named named vehicle;
  }

  parts_hold : (vehicle : Path) (tick : ℕ)
      → list_all (holds_at point) (motion_parts scene layed vehicle tick) ≡ not (list_all (holds_at point) (presence_rules layed (guards scene vehicle))) || moves (course vehicle) tick
  parts_hold vehicle tick =
      let there : List FlatRule = presence_rules layed (guards scene vehicle) in
      let met = list_all (holds_at point) there in
      let before : FlatRule = AtMost (Whole (pos tick)) (end_term scene slot) in
      let strict : FlatRule = Below (Whole (pos tick)) (end_term scene slot) in
      let fast : FlatRule = AtMost (Slot (slot (SlotName.Speed vehicle tick))) (value_term layed (max_speed vehicle)) in
      let steps : List FlatRule = step_rules layed vehicle (sample_slots layed vehicle tick) (sample_slots layed vehicle (tick + 1)) in
      let step = is_step scene.setting.tick (named (SlotName.Value (max_acceleration vehicle))) (sample_named named vehicle tick) (sample_named named vehicle (tick + 1)) in
      let first : holds_at point (under (there ++ before ∷ []) fast) ≡ not met || (not (holds_at point before) || holds_at point fast) =
      under_holds point (there ++ before ∷ []) fast ∙ ap (λ b. not b || holds_at point fast) (all_append (holds_at point) there (before ∷ []))
      ∙ two_conditions met (holds_at point before) (holds_at point fast) in
      let later : list_all (holds_at point) (map (under (there ++ strict ∷ [])) steps) ≡ not met || (not (holds_at point strict) || step) =
      all_map (holds_at point) (under (there ++ strict ∷ [])) steps
      ∙ T.all_same (λ r. holds_at point (under (there ++ strict ∷ []) r)) (λ r. not (met && (holds_at point strict && true)) || holds_at point r) steps
      (λ r i. under_holds point (there ++ strict ∷ []) r ∙ ap (λ b. not b || holds_at point r) (all_append (holds_at point) there (strict ∷ [])))
      ∙ under_each (met && (holds_at point strict && true)) (holds_at point) steps
      ∙ two_conditions met (holds_at point strict) (list_all (holds_at point) steps)
      ∙ ap (λ b. not met || (not (holds_at point strict) || b)) (step_holds point layed vehicle (sample_slots layed vehicle tick) (sample_slots layed vehicle (tick + 1))) in
      let second : list_all (holds_at point) (cond (nat_lt tick scene.setting.ticks) (map (under (there ++ strict ∷ [])) steps) []) ≡ not met || (not (nat_lt tick scene.setting.ticks) || (not (holds_at point strict) || step)) =
      two_ways (nat_lt tick scene.setting.ticks) (λ e. rw e later) (λ e. rw e (sym (free met))) in
      ap₂ (◌&&◌) first second
      ∙ under_two met (not (holds_at point before) || holds_at point fast) (not (nat_lt tick scene.setting.ticks) || (not (holds_at point strict) || step))
    where
      free : (m : Bool) → not m || true ≡ true
      free true = refl
      free false = refl

  record Limit (vehicle limit : Path) : Type 0 where
    spot : ValueSpot
    known : value_at scene limit ≡ Some spot
    is : source scene limit ≡ OfValue
    conditions : guards scene limit ≡ guards scene vehicle

  limit_of : (vehicle limit : Path) → is_limit scene vehicle limit ≡ true → Limit vehicle limit
  limit_of vehicle limit h =
      let rest : option_map_or (λ (v : ValueSpot). is_numeric v.range) (value_at scene limit) false && same_guards (guards scene limit) (guards scene vehicle) ≡ true = right_of _ _ h in
      let spot = spot_of (value_at scene limit) refl (left_of (option_map_or (λ (v : ValueSpot). is_numeric v.range) (value_at scene limit) false) (same_guards (guards scene limit) (guards scene vehicle)) rest) in
      record {
        spot = spot.0;
        known = spot.1;
        is = value_source (source scene limit) refl h;
        conditions = guards_are (guards scene limit) (guards scene vehicle) (right_of (option_map_or (λ (v : ValueSpot). is_numeric v.range) (value_at scene limit) false) (same_guards (guards scene limit) (guards scene vehicle)) rest);
      }
    where
      spot_of : (o : Option ValueSpot) → value_at scene limit ≡ o → option_map_or (λ (v : ValueSpot). is_numeric v.range) o false ≡ true → (v : ValueSpot) × (value_at scene limit ≡ Some v)
      spot_of None e g = absurd (true≢false (sym g))
      spot_of (Some v) e g = (v, e)

      value_source : (s : Source) → source scene limit ≡ s → is_limit scene vehicle limit ≡ true → source scene limit ≡ OfValue
      value_source OfValue e g = e
      value_source OfRun e g = let f = rw e at g in absurd (true≢false (sym f))
      value_source (OfPhase phase) e g = let f = rw e at g in absurd (true≢false (sym f))

  limit_number : (vehicle limit : Path) → is_limit scene vehicle limit ≡ true → stands scene named vehicle ≡ true → field_number scene runs limit ≡ named (SlotName.Value limit)
  limit_number vehicle limit h there =
      let l = limit_of vehicle limit h in
      ap (λ o. unwrap_or o (pos 0))
      (value_there scene point slot inside expanded.is_scene.texts expanded.no_durations limit l.spot l.known l.is (ap (list_all (is_held named)) l.conditions ∙ there))

  pub sample_is : (vehicle : Path) (tick : ℕ) → In vehicle (vehicles scene) → stands scene named vehicle ≡ true → tick ≤ end_named scene named → sample_of runs vehicle tick ≡ sample_named named vehicle tick
  sample_is vehicle tick i there small = ap (λ o. unwrap_or o still)
      (sample_there scene named vehicle tick there (any_from (λ v. same_path v vehicle) (vehicles scene) vehicle i (path_self vehicle)) small)

  pub moves_same : (vehicle : Path) (tick : ℕ) → In vehicle (vehicles scene) → stands scene named vehicle ≡ true → moves (course vehicle) tick ≡ moves (course_of scene runs vehicle) tick
  moves_same vehicle tick i there =
      let limits = all_at (is_limited scene) (vehicles scene) expanded.is_scene.limited vehicle i in
      let speed = limit_number vehicle (max_speed vehicle) (left_of (is_limit scene vehicle (max_speed vehicle)) (is_limit scene vehicle (max_acceleration vehicle)) limits) there in
      let acceleration = limit_number vehicle (max_acceleration vehicle) (right_of (is_limit scene vehicle (max_speed vehicle)) (is_limit scene vehicle (max_acceleration vehicle)) limits) there in
      let end : worth_at point (end_term scene slot) ≡ pos (end_named scene named) = sym (end_back scene point slot inside) in
      ap₂ (◌&&◌)
      (under_one (int_le (pos tick) (worth_at point (end_term scene slot))) (int_le (pos tick) (pos (end_named scene named)))
      (int_le (sample_named named vehicle tick).speed (named (SlotName.Value (max_speed vehicle)))) (int_le (sample_of runs vehicle tick).speed (field_number scene runs (max_speed vehicle)))
      (ap (int_le (pos tick)) end)
      (λ h. ap₂ int_le (ap (λ (s : Sample). s.speed) (sym (sample_is vehicle tick i there (at_most tick (end_named scene named) (sym (ap (int_le (pos tick)) end) ∙ h))))) (sym speed)))
      (ap (λ b. not (nat_lt tick scene.setting.ticks) || b)
      (under_one (int_lt (pos tick) (worth_at point (end_term scene slot))) (int_lt (pos tick) (pos (end_named scene named)))
      (is_step scene.setting.tick (named (SlotName.Value (max_acceleration vehicle))) (sample_named named vehicle tick) (sample_named named vehicle (tick + 1)))
      (is_step scene.setting.tick (field_number scene runs (max_acceleration vehicle)) (sample_of runs vehicle tick) (sample_of runs vehicle (tick + 1)))
      (ap (int_lt (pos tick)) end)
      (λ h. let less : tick < end_named scene named = below tick (end_named scene named) (sym (ap (int_lt (pos tick)) end) ∙ h) in
      ap (λ a. is_step scene.setting.tick a (sample_named named vehicle tick) (sample_named named vehicle (tick + 1))) (sym acceleration)
      ∙ ap₂ (is_step scene.setting.tick (field_number scene runs (max_acceleration vehicle)))
      (sym (sample_is vehicle tick i there (omega arith))) (sym (sample_is vehicle (tick + 1) i there (omega arith))))))
    where
      at_most : (a b : ℕ) → int_le (pos a) (pos b) ≡ true → a ≤ b
      at_most a b h = grind (arith, ints)

      below : (a b : ℕ) → int_lt (pos a) (pos b) ≡ true → a < b
      below a b h = grind (arith, ints)

  pub motion_law : (vehicle : Path) (tick : ℕ) → In vehicle (vehicles scene) → holds_at point (motion_rule scene layed vehicle tick) ≡ motion_holds scene runs vehicle tick
  motion_law vehicle tick i =
      let held = rules_held scene point slot expanded inside (guards scene vehicle) in
      all_holds point (motion_parts scene layed vehicle tick) ∙ parts_hold vehicle tick
      ∙ under_one (list_all (holds_at point) (presence_rules layed (guards scene vehicle))) (is_there scene runs vehicle) (moves (course vehicle) tick) (moves (course_of scene runs vehicle) tick)
      (held ∙ sym (there_stands scene point slot expanded inside vehicle)) (λ h. moves_same vehicle tick i (sym held ∙ h))
