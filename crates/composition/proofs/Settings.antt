-- The ranges of a setting, as bounds on its numbers.
use Rattle.std.proofs.Common.{◌≡◌, ◌&&◌, refl, arith, Bool, true, false}
use Rattle.std.specs.Prelude.{ℕ, ◌≤◌, ◌*◌, nat_le}
use Rattle.expr_nodes.specs.Sizes.{duration_reach}
use Rattle.composition.specs.declared.setting.Setting.{Setting}
use Rattle.composition.specs.Invariants.{is_setting, is_from_to}

left_of : (a b : Bool) → a && b ≡ true → a ≡ true
left_of true b h = refl
left_of false b h = h

right_of : (a b : Bool) → a && b ≡ true → b ≡ true
right_of true b h = h
right_of false true h = refl
right_of false false h = h

-- two bounds on a number
record IsFromTo (low high n : ℕ) : Type 0 where
  least : low ≤ n
  most : n ≤ high

bounds_of : (low high n : ℕ) → is_from_to low high n ≡ true → IsFromTo low high n
bounds_of low high n h =
    let least = left_of (nat_le low n) (nat_le n high) h in
    let most = right_of (nat_le low n) (nat_le n high) h in
    record { least = at_most low n least; most = at_most n high most }
  where
    at_most : (a b : ℕ) → nat_le a b ≡ true → a ≤ b
    at_most a b h = grind (arith, h)

-- what the ranges of a setting say
pub record IsSetting (s : Setting) : Type 0 where
  pub some_ticks : 1 ≤ s.ticks
  pub few_ticks : s.ticks ≤ 600
  pub some_lanes : 1 ≤ s.lanes
  pub few_lanes : s.lanes ≤ 8
  pub some_road : 1 ≤ s.road
  pub short_road : s.road ≤ 10000
  pub some_tick : 10 ≤ s.tick
  pub short_tick : s.tick ≤ 1000
  pub short : s.ticks * s.tick ≤ duration_reach

pub setting_is : (s : Setting) → is_setting s ≡ true → IsSetting s
setting_is s h =
    let space = is_from_to 1 8 s.lanes && is_from_to 1 10000 s.road in
    let first = left_of (is_from_to 1 600 s.ticks && space) (is_from_to 10 1000 s.tick) h in
    let rest = right_of (is_from_to 1 600 s.ticks) space first in
    let ticks = bounds_of 1 600 s.ticks (left_of (is_from_to 1 600 s.ticks) space first) in
    let lanes = bounds_of 1 8 s.lanes (left_of (is_from_to 1 8 s.lanes) (is_from_to 1 10000 s.road) rest) in
    let road = bounds_of 1 10000 s.road (right_of (is_from_to 1 8 s.lanes) (is_from_to 1 10000 s.road) rest) in
    let tick = bounds_of 10 1000 s.tick (right_of (is_from_to 1 600 s.ticks && space) (is_from_to 10 1000 s.tick) h) in
    record {
      some_ticks = ticks.least;
      few_ticks = ticks.most;
      some_lanes = lanes.least;
      few_lanes = lanes.most;
      some_road = road.least;
      short_road = road.most;
      some_tick = tick.least;
      short_tick = tick.most;
      short = product s.ticks s.tick ticks.most tick.most;
    }
  where
    product : (a b : ℕ) → a ≤ 600 → b ≤ 1000 → a * b ≤ 600000
    product a b h k = grind (arith, h, k)
