-- When a modifier holds of two samples: of its own vehicle and of the other one. Its range is from `low` to `high`; a value is the range from
-- it to itself, and a range with a greater first end holds nothing.
use Rattle.std.specs.Prelude.{◌&&◌, Bool, not, ℤ, pos, ◌+ℤ◌, ◌-ℤ◌, int_le}
use Rattle.osc_base.specs.declared.sample.Sample.{Sample}
use Rattle.osc_base.specs.declared.modifier.Kind.{Kind}
use Rattle.osc_base.specs.declared.modifier.Moment.{Moment}
use Rattle.osc_base.specs.Number.{Number}
use Rattle.osc_base.specs.Comparisons.{same_number, is_between}

-- a speed in metres a second
abbrev pub metres_a_second : ℤ → Number
metres_a_second speed = record { numerator = speed; denominator = pos 1000 }

-- a position in metres
abbrev pub metres : ℤ → Number
metres position = record { numerator = position; denominator = pos 1000000 }

-- a lane counts as itself
abbrev pub lanes : ℤ → Number
lanes lane = record { numerator = lane; denominator = pos 1 }

-- the modifier holds of the samples
abbrev pub holds_of : Kind → Number → Number → Sample → Sample → Bool
holds_of Kind.Speed low high own other = is_between low high (metres_a_second own.speed)
holds_of Kind.FasterThan low high own other = is_between low high (metres_a_second (own.speed -ℤ other.speed))
holds_of Kind.SlowerThan low high own other = is_between low high (metres_a_second (other.speed -ℤ own.speed))
holds_of Kind.SameSpeed low high own other = same_number own.speed other.speed
holds_of Kind.Lane low high own other = is_between low high (lanes own.lane)
holds_of Kind.SameLane low high own other = same_number own.lane other.lane
holds_of Kind.LeftOf low high own other = same_number own.lane (other.lane +ℤ pos 1)
holds_of Kind.RightOf low high own other = same_number own.lane (other.lane -ℤ pos 1)
holds_of Kind.Position low high own other = is_between low high (metres own.position)
holds_of Kind.AheadOf low high own other = is_between low high (metres (own.position -ℤ other.position))
holds_of Kind.Behind low high own other = is_between low high (metres (other.position -ℤ own.position))

-- a tick is a moment of a modifier, when its phase goes from `start` to `end`
abbrev pub is_moment : Moment → ℤ → ℤ → ℤ → Bool
is_moment Moment.Start start end tick = same_number start tick
is_moment Moment.End start end tick = same_number end tick
is_moment Moment.All start end tick = int_le start tick && not (int_le end tick)
