-- The cut of a slot that a wish and a number give.
use Rattle.std.specs.Prelude.{ℕ, ◌/◌, ◌%◌, max, Bool, false, ◌&&◌, ◌||◌, if◌then◌else◌, nat_eq, nat_lt, List, Option, Some, None, ℤ, pos, ◌+ℤ◌, ◌-ℤ◌, ◌*ℤ◌, int_lt, int_le, unsigned_abs}
use Rattle.std.specs.Int.{int_div_euclid}
use Rattle.box_eval.specs.declared.bounds.Pair.{Pair}
use Rattle.box_eval.specs.declared.cut.Cut.{Cut}
use Rattle.box_eval.specs.declared.cut.Side.{Side}
use Rattle.box_eval.specs.declared.cut.Side.TheVariants.{Low, High}
use Rattle.box_eval.specs.Box.{low_at, high_at, cut_at}
use Rattle.search_plans.specs.Drawn.{drawn}
use Rattle.search_plans.specs.declared.draw.Draw.{Draw}
use Rattle.search_plans.specs.declared.wish.Share.{Share}
use Rattle.search_plans.specs.declared.wish.Mean.{Mean}
use Rattle.search_plans.specs.declared.wish.Wish.{Wish}
use Rattle.search_plans.specs.declared.wish.Wish.TheVariants.{Free, Even, Around, Like}
use Rattle.search_plans.specs.Steps.{multiple, steps_in, steps_to, greatest_to, least_from, middle, eighth}

-- a slot has two values or more
abbrev pub is_wide : List Pair → ℕ → Bool
is_wide ends slot = int_lt (low_at ends slot) (high_at ends slot)

-- ---- parts of a cut

-- which part comes first: by an even number the one below, by an odd one the one above
abbrev pub side_of : ℕ → Side
side_of number = if nat_eq (number % 2) 0 then Low else High

abbrev pub sided : Draw → ℤ → Cut
sided d value = cut_at (side_of d.number) d.slot value

-- a cut in the middle
unfoldable pub halved : Draw → Cut
halved d = sided d (middle d.low d.high)

-- a cut beside a value that is no end of the slot, which the first part has
abbrev pub split : Draw → ℤ → Cut
split d value = if nat_eq (d.number / 16 % 2) 0 then cut_at Low d.slot value else cut_at High d.slot (value -ℤ pos 1)

-- a cut beside a wanted value. If that is an end of the slot, or outside of it, the first part has that end alone.
unfoldable pub beside : Draw → ℤ → Cut
beside d wanted =
    if int_le d.high wanted then cut_at High d.slot (d.high -ℤ pos 1)
    else if int_le wanted d.low then cut_at Low d.slot d.low
    else split d wanted

-- ---- each multiple of a step alike

-- a cut between the lower and the upper half of the multiples from the first to the last, by their numbers
abbrev pub shared : ℕ → Draw → ℤ → ℤ → Cut
shared step d first last =
    if int_lt first last then sided d (multiple step (middle first last +ℤ pos 1) -ℤ pos 1)
    else if int_le first last then beside d (multiple step first)
    else halved d

unfoldable pub even : ℕ → Draw → Cut
even step d = shared step d (steps_to step d.low) (steps_in step d.high)

-- ---- around a value

-- the part within a reach of a value comes first, and an even draw cuts that part
unfoldable pub within : ℤ → ℕ → ℕ → Draw → Cut
within value reach step d =
    if int_lt d.low (value -ℤ pos reach) && int_le (value -ℤ pos reach) d.high then cut_at High d.slot (value -ℤ pos reach -ℤ pos 1)
    else if int_le d.low (value +ℤ pos reach) && int_lt (value +ℤ pos reach) d.high then cut_at Low d.slot (value +ℤ pos reach)
    else even step d

abbrev pub around : List Pair → ℕ → ℕ → ℕ → Draw → Cut
around ends near reach step d = if is_wide ends near then even step d else within (low_at ends near) reach step d

-- ---- like a mean

-- a share that counts has no single value yet
abbrev pub lacks_share : List Pair → Share → Bool
lacks_share ends share = nat_lt 0 (unsigned_abs share.times) && is_wide ends share.slot

abbrev pub lacks_mean : List Pair → Mean → Bool
lacks_mean ends mean =
    (lacks_share ends mean.first || lacks_share ends mean.second) || (lacks_share ends mean.third || lacks_share ends mean.fourth)

-- the base has no single value yet
abbrev pub lacks_base : List Pair → Option ℕ → Bool
lacks_base ends None = false
lacks_base ends (Some slot) = is_wide ends slot

-- the value of the base, and 0 without one
abbrev pub base_value : List Pair → Option ℕ → ℤ
base_value ends None = pos 0
base_value ends (Some slot) = low_at ends slot

-- what a share gives the sum
abbrev pub worth : List Pair → Share → ℤ
worth ends share = share.times *ℤ low_at ends share.slot

abbrev pub sum_of : List Pair → Mean → ℤ
sum_of ends mean = (worth ends mean.first +ℤ worth ends mean.second) +ℤ (worth ends mean.third +ℤ worth ends mean.fourth)

-- the mean, rounded down
unfoldable pub mean_of : List Pair → Mean → ℤ
mean_of ends mean = int_div_euclid (sum_of ends mean) (pos (max 1 mean.over))

-- a wanted number, or if it isn't between the first and the last, one an eighth of the way inside
unfoldable pub inside : ℕ → ℤ → ℤ → ℤ → ℤ → ℤ
inside step base first last wanted =
    if int_lt last wanted then greatest_to step base (last -ℤ eighth first last)
    else if int_lt wanted first then least_from step base (first +ℤ eighth first last)
    else wanted

-- a cut beside a wanted number of those from the first to the last
unfoldable pub led : ℕ → ℤ → Draw → ℤ → ℤ → ℤ → Cut
led step base d wanted first last = if int_le first last then beside d (inside step base first last wanted) else halved d

unfoldable pub towards : ℕ → ℤ → Draw → ℤ → Cut
towards step base d mean = led step base d (greatest_to step base mean) (least_from step base d.low) (greatest_to step base d.high)

unfoldable pub like : List Pair → Mean → Option ℕ → ℕ → Draw → Cut
like ends mean base step d =
    if lacks_mean ends mean || lacks_base ends base then halved d else towards step (base_value ends base) d (mean_of ends mean)

-- ---- wishes

abbrev pub wished_by : Wish → List Pair → Draw → Cut
wished_by Free ends d = drawn d.number d.slot d.low d.high
wished_by (Even step) ends d = even step d
wished_by (Around near reach step) ends d = around ends near reach step d
wished_by (Like mean base step) ends d = like ends mean base step d

abbrev pub draw_at : List Pair → ℕ → ℕ → Draw
draw_at ends slot number = record { number = number; slot = slot; low = low_at ends slot; high = high_at ends slot }

-- the cut of a slot of a box
abbrev pub wished : Wish → List Pair → ℕ → ℕ → Cut
wished wish ends slot number = wished_by wish ends (draw_at ends slot number)
