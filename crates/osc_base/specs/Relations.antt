-- What the relation of a modifier asks of samples. The relation is data: each definition and law goes by it, and none by the words of modifiers.
use Rattle.std.specs.Prelude.{ℕ, ◌+◌, ◌&&◌, ◌||◌, Bool, true, false, not, nat_eq, Option, Some, None, ℤ, pos, negsuc, ◌+ℤ◌, ◌-ℤ◌, int_le, unsigned_abs}
use Rattle.std.specs.List.{list_all, range_with_len}
use Rattle.osc_base.specs.declared.sample.Sample.{Sample}
use Rattle.osc_base.specs.declared.modifier.Kind.{Kind}
use Rattle.osc_base.specs.declared.modifier.Moment.{Moment}
use Rattle.osc_base.specs.declared.relation.Quantity.{Quantity}
use Rattle.osc_base.specs.declared.relation.Reading.{Reading}
use Rattle.osc_base.specs.declared.relation.Rate.{Rate}
use Rattle.osc_base.specs.declared.relation.Side.{Side}
use Rattle.osc_base.specs.declared.relation.Relation.{Relation}
use Rattle.osc_base.specs.Number.{Number, whole, product}
use Rattle.osc_base.specs.Comparisons.{same_number, is_between}
use Rattle.osc_base.specs.Modifiers.{metres_a_second, is_moment}

-- ---- what is read

-- a number of a sample
abbrev pub quantity_in : Sample → Quantity → ℤ
quantity_in s Quantity.Lane = s.lane
quantity_in s Quantity.Position = s.position
quantity_in s Quantity.Speed = s.speed

-- so many units of a quantity make a lane, a metre, or a metre a second
abbrev pub units : Quantity → ℕ
units Quantity.Lane = 1
units Quantity.Position = 1000000
units Quantity.Speed = 1000

-- the quantity that is read
abbrev pub quantity : Reading → Quantity
quantity (Reading.Own q) = q
quantity (Reading.Other q) = q
quantity (Reading.Next q) = q

-- The samples that a relation may look at: that of the own vehicle, that of the other one, and the own one of the next tick.
pub record Samples : Type 0 where
  pub own : Sample
  pub other : Sample
  pub next : Sample

-- what is read in these samples
abbrev pub read : Samples → Reading → ℤ
read s (Reading.Own q) = quantity_in s.own q
read s (Reading.Other q) = quantity_in s.other q
read s (Reading.Next q) = quantity_in s.next q

-- ---- relations

-- So many units of what is compared make one of what the range counts, if a tick has so many milliseconds: a speed in millimetres a second over
-- the milliseconds in which it grows by that is an acceleration in metres a second squared.
abbrev pub units_by : ℕ → Quantity → Rate → ℕ
units_by length q Rate.Whole = units q
units_by length q Rate.Tick = length
units_by length q (Rate.Headway at) = units q

-- an end of the range as what is compared: metres for so many seconds at a speed
abbrev pub end_by : Samples → Rate → Number → Number
end_by s Rate.Whole end = end
end_by s Rate.Tick end = end
end_by s (Rate.Headway at) end = product end (metres_a_second (read s at))

-- so many units lie in the range from `low` to `high`
abbrev pub lies : ℕ → Samples → Quantity → Rate → Number → Number → ℤ → Bool
lies length s q rate low high count = is_between (end_by s rate low) (end_by s rate high) (record { numerator = count; denominator = pos (units_by length q rate) })

-- The relation holds of samples, if a tick has so many milliseconds and the range is from `low` to `high`. That of a change is one of a whole phase.
abbrev pub holds : ℕ → Relation → Number → Number → Samples → Bool
holds length (Relation.Within a rate) low high s = lies length s (quantity a) rate low high (read s a)
holds length (Relation.Apart a b rate) low high s = lies length s (quantity a) rate low high (read s a -ℤ read s b)
holds length (Relation.Beside a b more) low high s = same_number (read s a) (read s b +ℤ more)
holds length (Relation.Change side) low high s = true

-- ---- phases

-- What a modifier may look at: the length of a tick in milliseconds, the last tick that a run may have, the ticks at which its phase starts and
-- ends, and the samples of its own vehicle and of the other one.
pub record Sight : Type 0 where
  pub length : ℕ
  pub ticks : ℕ
  pub start : ℤ
  pub end : ℤ
  pub own : ℕ → Sample
  pub other : ℕ → Sample

-- the samples at a tick
abbrev pub samples_at : Sight → ℕ → Samples
samples_at s tick = record { own = s.own tick; other = s.other tick; next = s.own (tick + 1) }

-- ---- changes of the lane

-- so many lanes one lane lies to a side of another
abbrev pub lanes_to : Side → ℤ → ℤ → ℤ
lanes_to Side.Left from to = to -ℤ from
lanes_to Side.Right from to = from -ℤ to

-- a step of the phase from a tick to the next goes to no other side
abbrev pub keeps_to : Side → Sight → ℕ → Bool
keeps_to side s tick =
    not (is_moment Moment.All s.start s.end (pos tick)) || int_le (pos 0) (lanes_to side (s.own tick).lane (s.own (tick + 1)).lane)

-- from the start of the phase to its end there are as many lanes to a side as the range says, and at least 1
abbrev pub changes_to : Side → Number → Number → Sight → Bool
changes_to side low high s =
    let lanes = lanes_to side (s.own (unsigned_abs s.start)).lane (s.own (unsigned_abs s.end)).lane in
    int_le (pos 1) lanes && is_between low high (whole lanes)

-- all steps of the phase go to one side, on the whole by as many lanes as the range says
abbrev pub goes_to : Side → Number → Number → Sight → Bool
goes_to side low high s = list_all (keeps_to side s) (range_with_len 0 s.ticks) && changes_to side low high s

-- What a change asks at a tick. With a side each step is asked for at its own tick, and the whole way at the first. Without one all is asked for at
-- the first tick.
abbrev pub change_holds : Option Side → Number → Number → Sight → ℕ → Bool
change_holds (Some side) low high s tick = keeps_to side s tick && (not (nat_eq tick 0) || changes_to side low high s)
change_holds None low high s tick = not (nat_eq tick 0) || (goes_to Side.Left low high s || goes_to Side.Right low high s)

-- ---- modifiers

-- What a modifier asks at a tick of the run. A relation is asked for at the moments of the modifier.
abbrev pub asks : Relation → Moment → Number → Number → Sight → ℕ → Bool
asks (Relation.Within a rate) moment low high s tick =
    not (is_moment moment s.start s.end (pos tick)) || holds s.length (Relation.Within a rate) low high (samples_at s tick)
asks (Relation.Apart a b rate) moment low high s tick =
    not (is_moment moment s.start s.end (pos tick)) || holds s.length (Relation.Apart a b rate) low high (samples_at s tick)
asks (Relation.Beside a b more) moment low high s tick =
    not (is_moment moment s.start s.end (pos tick)) || holds s.length (Relation.Beside a b more) low high (samples_at s tick)
asks (Relation.Change side) moment low high s tick = change_holds side low high s tick

-- ---- what a relation needs

-- it is read in the other vehicle's sample
abbrev pub is_other : Reading → Bool
is_other (Reading.Own q) = false
is_other (Reading.Other q) = true
is_other (Reading.Next q) = false

-- it is read at the next tick
abbrev pub is_next : Reading → Bool
is_next (Reading.Own q) = false
is_next (Reading.Other q) = false
is_next (Reading.Next q) = true

-- a range is counted by what is read so
abbrev pub rate_reads : (Reading → Bool) → Rate → Bool
rate_reads test Rate.Whole = false
rate_reads test Rate.Tick = false
rate_reads test (Rate.Headway at) = test at

-- some number is read so
abbrev pub reads_some : (Reading → Bool) → Relation → Bool
reads_some test (Relation.Within a rate) = test a || rate_reads test rate
reads_some test (Relation.Apart a b rate) = test a || (test b || rate_reads test rate)
reads_some test (Relation.Beside a b more) = test a || test b
reads_some test (Relation.Change side) = false

-- the relation has another vehicle
abbrev pub looks_at_other : Relation → Bool
looks_at_other relation = reads_some is_other relation

-- the relation looks at a tick and the next
abbrev pub is_step : Relation → Bool
is_step relation = reads_some is_next relation

-- the relation has a value or a range
abbrev pub is_ranged : Relation → Bool
is_ranged (Relation.Beside a b more) = false
is_ranged _ = true

-- The exponents of metres and of seconds in the unit of what the range counts.
pub record Dimension : Type 0 where
  pub metres : ℤ
  pub seconds : ℤ

abbrev pub dimension_of : Quantity → Dimension
dimension_of Quantity.Lane = record { metres = pos 0; seconds = pos 0 }
dimension_of Quantity.Position = record { metres = pos 1; seconds = pos 0 }
dimension_of Quantity.Speed = record { metres = pos 1; seconds = negsuc 0 }

-- metres over metres a second are seconds
abbrev pub dimension_by : Dimension → Rate → Dimension
dimension_by d Rate.Whole = d
dimension_by d Rate.Tick = record d { seconds = d.seconds -ℤ pos 1 }
dimension_by d (Rate.Headway at) = record { metres = d.metres -ℤ pos 1; seconds = d.seconds +ℤ pos 1 }

abbrev pub dimension : Relation → Dimension
dimension (Relation.Within a rate) = dimension_by (dimension_of (quantity a)) rate
dimension (Relation.Apart a b rate) = dimension_by (dimension_of (quantity a)) rate
dimension (Relation.Beside a b more) = record { metres = pos 0; seconds = pos 0 }
dimension (Relation.Change side) = record { metres = pos 0; seconds = pos 0 }

-- ---- the relations of modifiers whose moments are single ticks

abbrev pub relation_of : Kind → Relation
relation_of Kind.Speed = Relation.Within (Reading.Own Quantity.Speed) Rate.Whole
relation_of Kind.FasterThan = Relation.Apart (Reading.Own Quantity.Speed) (Reading.Other Quantity.Speed) Rate.Whole
relation_of Kind.SlowerThan = Relation.Apart (Reading.Other Quantity.Speed) (Reading.Own Quantity.Speed) Rate.Whole
relation_of Kind.SameSpeed = Relation.Beside (Reading.Own Quantity.Speed) (Reading.Other Quantity.Speed) (pos 0)
relation_of Kind.Lane = Relation.Within (Reading.Own Quantity.Lane) Rate.Whole
relation_of Kind.SameLane = Relation.Beside (Reading.Own Quantity.Lane) (Reading.Other Quantity.Lane) (pos 0)
relation_of Kind.LeftOf = Relation.Beside (Reading.Own Quantity.Lane) (Reading.Other Quantity.Lane) (pos 1)
relation_of Kind.RightOf = Relation.Beside (Reading.Own Quantity.Lane) (Reading.Other Quantity.Lane) (negsuc 0)
relation_of Kind.Position = Relation.Within (Reading.Own Quantity.Position) Rate.Whole
relation_of Kind.AheadOf = Relation.Apart (Reading.Own Quantity.Position) (Reading.Other Quantity.Position) Rate.Whole
relation_of Kind.Behind = Relation.Apart (Reading.Other Quantity.Position) (Reading.Own Quantity.Position) Rate.Whole
