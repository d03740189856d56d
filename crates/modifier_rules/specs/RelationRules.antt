-- The rule over the slots of samples that says at a point what a relation says of them.
use Rattle.std.specs.Prelude.{ℕ, zero, ◌+◌, ◌*◌, ◌/◌, ◌&&◌, cond, not, nat_eq, nat_lt, List, [], ◌∷◌, ◌++◌, Option, Some, None, map, ℤ, pos}
use Rattle.std.specs.List.{range_with_len}
use Rattle.osc_base.specs.declared.sample.SampleSlots.{SampleSlots}
use Rattle.osc_base.specs.declared.modifier.Moment.{Moment}
use Rattle.osc_base.specs.declared.relation.Quantity.{Quantity}
use Rattle.osc_base.specs.declared.relation.Reading.{Reading}
use Rattle.osc_base.specs.declared.relation.Rate.{Rate}
use Rattle.osc_base.specs.declared.relation.Side.{Side}
use Rattle.osc_base.specs.declared.relation.Relation.{Relation}
use Rattle.osc_base.specs.LowestTerms.{lcm}
use Rattle.osc_base.specs.Relations.{quantity, units, is_step}
use Rattle.box_eval.specs.FlatRules.{FlatTerm, FlatRule, Whole, Slot, Sum, Less, Times, Truth, Always, AtMost, Equal, Both, Either, all_of, joined, under, times}
use Rattle.modifier_rules.specs.Relations.{position_scale, lane_scale, speed_scale, moment_at}

-- ---- one tick and the next

-- the slots that a relation may look at: those of the own vehicle, of the other one, and the own ones of the next tick
pub record SlotsAt : Type 0 where
  pub own : SampleSlots
  pub other : SampleSlots
  pub next : SampleSlots

-- the slot of a quantity
abbrev pub slot_of : SampleSlots → Quantity → ℕ
slot_of s Quantity.Lane = s.lane
slot_of s Quantity.Position = s.position
slot_of s Quantity.Speed = s.speed

-- the slot in which a number is read
abbrev pub slot_read : SlotsAt → Reading → ℕ
slot_read s (Reading.Own q) = slot_of s.own q
slot_read s (Reading.Other q) = slot_of s.other q
slot_read s (Reading.Next q) = slot_of s.next q

-- A quantity, so many units of which make one of what a range counts, lies between two ends, which are terms at a scale of their own. Both sides of
-- each comparison are taken at the least common multiple of that scale and of another one, of which the units are a divisor.
abbrev pub between : ℕ → ℕ → FlatTerm → FlatTerm → FlatTerm → ℕ → FlatRule
between base unit compared low high scale =
    let common = lcm base scale in
    let middle = times (common / unit) compared in
    Both (AtMost (times (common / scale) low) middle) (AtMost middle (times (common / scale) high))

-- a quantity lies in a range from `low` to `high`, terms at a scale; metres for seconds are a product with the speed
abbrev pub lies_rule : ℕ → SlotsAt → Quantity → Rate → FlatTerm → FlatTerm → FlatTerm → ℕ → FlatRule
lies_rule length s q Rate.Whole compared low high scale = between position_scale (units q) compared low high scale
lies_rule length s q Rate.Tick compared low high scale = between length length compared low high scale
lies_rule length s q (Rate.Headway at) compared low high scale =
    let speed = Slot (slot_read s at) in
    between position_scale (units q) compared (Times low speed) (Times high speed) (speed_scale * scale)

-- so much more than a term, and the term itself if it is nothing
abbrev pub more_than : FlatTerm → ℤ → FlatTerm
more_than term (pos zero) = term
more_than term more = Sum term (Whole more)

-- The relation holds of the samples in these slots, if a tick has so many milliseconds. That of a change is one of a whole phase.
abbrev pub relation_rule : ℕ → Relation → SlotsAt → FlatTerm → FlatTerm → ℕ → FlatRule
relation_rule length (Relation.Within a rate) s low high scale = lies_rule length s (quantity a) rate (Slot (slot_read s a)) low high scale
relation_rule length (Relation.Apart a b rate) s low high scale =
    lies_rule length s (quantity a) rate (Less (Slot (slot_read s a)) (Slot (slot_read s b))) low high scale
relation_rule length (Relation.Beside a b more) s low high scale = Equal (Slot (slot_read s a)) (more_than (Slot (slot_read s b)) more)
relation_rule length (Relation.Change side) s low high scale = Always

-- ---- phases

-- What a modifier may look at: the length of a tick in milliseconds, the last tick that a run may have, the terms of the ticks at which its phase
-- starts and ends, and the slots of its own vehicle and of the other one.
pub record SlotSight : Type 0 where
  pub length : ℕ
  pub ticks : ℕ
  pub start : FlatTerm
  pub end : FlatTerm
  pub own : ℕ → SampleSlots
  pub other : ℕ → SampleSlots

-- the slots at a tick
abbrev pub slots_at : SlotSight → ℕ → SlotsAt
slots_at s tick = record { own = s.own tick; other = s.other tick; next = s.own (tick + 1) }

-- the own lane at a tick that is a term: that of each tick, once if it is this one
abbrev pub lane_at : SlotSight → FlatTerm → FlatTerm
lane_at s tick =
    joined Sum (Whole (pos 0)) (map (λ t. Times (Truth (Equal tick (Whole (pos t)))) (Slot (s.own t).lane)) (range_with_len 0 (s.ticks + 1)))

-- so many lanes one lane lies to a side of another
abbrev pub lanes_to : Side → FlatTerm → FlatTerm → FlatTerm
lanes_to Side.Left from to = Less to from
lanes_to Side.Right from to = Less from to

-- a step of the phase from a tick to the next goes to no other side, if some conditions hold
abbrev pub keeps_rule : List FlatRule → Side → SlotSight → ℕ → FlatRule
keeps_rule conditions side s tick =
    under (conditions ++ moment_at Moment.All s.start s.end tick)
    (AtMost (Whole (pos 0)) (lanes_to side (Slot (s.own tick).lane) (Slot (s.own (tick + 1)).lane)))

-- from the start of the phase to its end there are as many lanes to a side as the range says, and at least 1
abbrev pub changes_rule : Side → SlotSight → FlatTerm → FlatTerm → ℕ → FlatRule
changes_rule side s low high scale =
    let lanes = lanes_to side (lane_at s s.start) (lane_at s s.end) in
    Both (AtMost (Whole (pos 1)) lanes) (between position_scale lane_scale lanes low high scale)

-- all steps of the phase go to one side, on the whole by as many lanes as the range says
abbrev pub goes_rule : Side → SlotSight → FlatTerm → FlatTerm → ℕ → FlatRule
goes_rule side s low high scale = all_of (map (keeps_rule [] side s) (range_with_len 0 s.ticks) ++ changes_rule side s low high scale ∷ [])

-- the step at a tick, if there is a next one
abbrev pub step_parts : List FlatRule → Side → SlotSight → ℕ → List FlatRule
step_parts conditions side s tick = cond (nat_lt tick s.ticks) (keeps_rule conditions side s tick ∷ []) []

-- what a change asks at a tick, if some conditions hold
abbrev pub change_rule : List FlatRule → Option Side → SlotSight → FlatTerm → FlatTerm → ℕ → ℕ → FlatRule
change_rule conditions (Some side) s low high scale tick =
    all_of (step_parts conditions side s tick ++ cond (nat_eq tick 0) (under conditions (changes_rule side s low high scale) ∷ []) [])
change_rule conditions None s low high scale tick =
    cond (nat_eq tick 0) (under conditions (Either (goes_rule Side.Left s low high scale) (goes_rule Side.Right s low high scale))) Always

-- ---- modifiers

-- a relation at its moments, if some conditions hold; one that looks at the next tick is never asked for at the last one
abbrev pub at_moment : List FlatRule → Relation → Moment → SlotSight → FlatTerm → FlatTerm → ℕ → ℕ → FlatRule
at_moment conditions relation moment s low high scale tick =
    cond (is_step relation && not (nat_lt tick s.ticks)) Always
    (under (conditions ++ moment_at moment s.start s.end tick) (relation_rule s.length relation (slots_at s tick) low high scale))

-- what a modifier asks at a tick if some conditions hold and its range is from `low` to `high`, terms at a scale
abbrev pub asks_rule : List FlatRule → Relation → Moment → SlotSight → FlatTerm → FlatTerm → ℕ → ℕ → FlatRule
asks_rule conditions (Relation.Within a rate) moment s low high scale tick = at_moment conditions (Relation.Within a rate) moment s low high scale tick
asks_rule conditions (Relation.Apart a b rate) moment s low high scale tick = at_moment conditions (Relation.Apart a b rate) moment s low high scale tick
asks_rule conditions (Relation.Beside a b more) moment s low high scale tick = at_moment conditions (Relation.Beside a b more) moment s low high scale tick
asks_rule conditions (Relation.Change side) moment s low high scale tick = change_rule conditions side s low high scale tick
