-- The rule that says at a point what a modifier says of two samples.
use Rattle.std.specs.Prelude.{ℕ, ◌/◌, List, [], ◌∷◌, pos, negsuc}
use Rattle.osc_base.specs.declared.sample.SampleSlots.{SampleSlots}
use Rattle.osc_base.specs.declared.modifier.Kind.{Kind}
use Rattle.osc_base.specs.declared.modifier.Moment.{Moment}
use Rattle.osc_base.specs.LowestTerms.{lcm}
use Rattle.box_eval.specs.FlatRules.{FlatTerm, FlatRule, Whole, Slot, Sum, Less, Below, AtMost, Equal, Both, times}

-- so many units of a speed's slot make a metre a second
abbrev pub speed_scale : ℕ
speed_scale = 1000

-- a lane's slot counts lanes
abbrev pub lane_scale : ℕ
lane_scale = 1

-- so many micrometres make a metre
abbrev pub position_scale : ℕ
position_scale = 1000000

-- A quantity whose scale is `unit` lies between two ends, which are terms at a scale of their own. Both sides of each comparison are taken at the
-- least common multiple of that scale and the one of positions, of which each quantity's scale is a divisor.
abbrev pub between : ℕ → FlatTerm → FlatTerm → FlatTerm → ℕ → FlatRule
between unit quantity low high scale =
    let common = lcm position_scale scale in
    let compared = times (common / unit) quantity in
    Both (AtMost (times (common / scale) low) compared) (AtMost compared (times (common / scale) high))

-- the first of two slots minus the second
abbrev pub apart : ℕ → ℕ → FlatTerm
apart a b = Less (Slot a) (Slot b)

-- the modifier holds of the samples in these slots, if its range is from `low` to `high`, terms at a scale
abbrev pub relation_at : Kind → SampleSlots → SampleSlots → FlatTerm → FlatTerm → ℕ → FlatRule
relation_at Kind.Speed own other low high scale = between speed_scale (Slot own.speed) low high scale
relation_at Kind.FasterThan own other low high scale = between speed_scale (apart own.speed other.speed) low high scale
relation_at Kind.SlowerThan own other low high scale = between speed_scale (apart other.speed own.speed) low high scale
relation_at Kind.SameSpeed own other low high scale = Equal (Slot own.speed) (Slot other.speed)
relation_at Kind.Lane own other low high scale = between lane_scale (Slot own.lane) low high scale
relation_at Kind.SameLane own other low high scale = Equal (Slot own.lane) (Slot other.lane)
relation_at Kind.LeftOf own other low high scale = Equal (Slot own.lane) (Sum (Slot other.lane) (Whole (pos 1)))
relation_at Kind.RightOf own other low high scale = Equal (Slot own.lane) (Sum (Slot other.lane) (Whole (negsuc 0)))
relation_at Kind.Position own other low high scale = between position_scale (Slot own.position) low high scale
relation_at Kind.AheadOf own other low high scale = between position_scale (apart own.position other.position) low high scale
relation_at Kind.Behind own other low high scale = between position_scale (apart other.position own.position) low high scale

-- a tick is a moment of a modifier, if its phase goes from the value of one term to that of another
abbrev pub moment_at : Moment → FlatTerm → FlatTerm → ℕ → List FlatRule
moment_at Moment.Start start end tick = Equal start (Whole (pos tick)) ∷ []
moment_at Moment.End start end tick = Equal end (Whole (pos tick)) ∷ []
moment_at Moment.All start end tick = AtMost start (Whole (pos tick)) ∷ Below (Whole (pos tick)) end ∷ []
