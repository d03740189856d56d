-- Where a vehicle is in the world: x goes along the road, and y to the left from the left edge of the road.
use Rattle.std.specs.Prelude.{ℕ, ◌+◌, ◌*◌, ℤ, pos, ◌-ℤ◌, ◌*ℤ◌, List, ◌++◌, unsigned_abs}
use Rattle.std.specs.Fmt.{sign_text}
use Rattle.std.specs.Int.{is_negative}
use Rattle.run_exports.specs.Decimals.{fixed}
use Rattle.run_exports.specs.declared.road.Road.{Road}

-- how many halves of a lane the middle of a lane is to the left of the road's left edge; lanes are counted from the right
abbrev pub halves : ℕ → ℤ → ℤ
halves lanes lane = pos 2 *ℤ lane -ℤ pos (2 * lanes + 1)

-- how far it is, in micrometres
abbrev pub middle : Road → ℤ → ℤ
middle road lane = halves road.lanes lane *ℤ pos (500 * road.lane_width)

-- the same in metres
unfoldable pub across : Road → ℤ → List ℕ
across road lane =
    let far = halves road.lanes lane in
    sign_text (is_negative far) ++ fixed 6 (unsigned_abs far * (500 * road.lane_width))
