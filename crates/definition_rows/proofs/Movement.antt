-- Modifiers on phases of a few ticks: each with its truth on a run, and that of its rules at the run's point.
use Rattle.std.specs.Prelude.{◌≡◌, refl, [], ◌∷◌, Option, Some, codes, option_map, pos, negsuc}
use Rattle.osc_base.specs.LowestTerms.{gcd, lcm}
use Rattle.osc_base.specs.Relations.{Dimension, dimension}
use Rattle.dsl_tree.specs.PhaseTree.{ModifierTree}
use Rattle.field_flatten.specs.composition.ModifierRows.{modifier_form}
use Rattle.definition_rows.proofs.Phases.{count, physical, minus, range, value, named, naming, modifier, sample, lanes, speeds, phase, says, holds, fails, no_form}

-- the dimension of what a modifier's range counts
abbrev dimension_in : ModifierTree → Option Dimension
dimension_in m = option_map (λ f. dimension f.relation) (modifier_form m)

-- ---- acceleration

-- acceleration(-6mpsps)
abbrev brakes : ModifierTree
brakes = modifier (codes "acceleration") (value (minus (physical 6 (codes "mpsps"))) ∷ [])

-- acceleration([-6mpsps..-4mpsps])
abbrev brakes_softly : ModifierTree
brakes_softly = modifier (codes "acceleration") (value (range (minus (physical 6 (codes "mpsps"))) (minus (physical 4 (codes "mpsps")))) ∷ [])

-- 1: from 20 m/s, by 0.6 m/s in each tenth of a second
brakes_evenly : says brakes (phase 2 0 2 (speeds (20000 ∷ 19400 ∷ 18800 ∷ []))) ≡ holds
unfolding gcd lcm
brakes_evenly = refl

-- 2: by 1 mm/s too little in the last step
brakes_too_little : says brakes (phase 2 0 2 (speeds (20000 ∷ 19400 ∷ 18801 ∷ []))) ≡ fails
unfolding gcd lcm
brakes_too_little = refl

-- 3: by 5 and by 4 m/s²
brakes_between : says brakes_softly (phase 2 0 2 (speeds (20000 ∷ 19500 ∷ 19100 ∷ []))) ≡ holds
unfolding gcd lcm
brakes_between = refl

-- 4: by 0.3 m/s in a twentieth of a second
brakes_in_shorter_ticks : says brakes (record (phase 1 0 1 (speeds (20000 ∷ 19700 ∷ []))) { length = 50 }) ≡ holds
unfolding gcd lcm
brakes_in_shorter_ticks = refl

-- ---- a speed and a lane that stay

-- keep_speed()
abbrev keeps_speed : ModifierTree
keeps_speed = modifier (codes "keep_speed") []

-- keep_lane()
abbrev keeps_lane : ModifierTree
keeps_lane = modifier (codes "keep_lane") []

-- 5: one speed at the start, within the phase and at its end
steady : says keeps_speed (phase 2 0 2 (speeds (20000 ∷ 20000 ∷ 20000 ∷ []))) ≡ holds
unfolding gcd lcm
steady = refl

-- 6: the last step of a phase counts
unsteady_at_the_end : says keeps_speed (phase 2 0 2 (speeds (20000 ∷ 20000 ∷ 21000 ∷ []))) ≡ fails
unfolding gcd lcm
unsteady_at_the_end = refl

-- 7: the first of two serial phases: what comes after it doesn't count
steady_before : says keeps_speed (phase 2 0 1 (speeds (20000 ∷ 20000 ∷ 21000 ∷ []))) ≡ holds
unfolding gcd lcm
steady_before = refl

-- 8: the second of them: its speed is that at the border
unsteady_after : says keeps_speed (phase 2 1 2 (speeds (20000 ∷ 20000 ∷ 21000 ∷ []))) ≡ fails
unfolding gcd lcm
unsteady_after = refl

-- 9: a lane up to the end
stays : says keeps_lane (phase 2 0 2 (lanes (2 ∷ 2 ∷ 2 ∷ []))) ≡ holds
unfolding gcd lcm
stays = refl

-- 10: a lane that changes in the last step, which `lane(2)` doesn't see
leaves_at_the_end : says keeps_lane (phase 2 0 2 (lanes (2 ∷ 2 ∷ 3 ∷ []))) ≡ fails
unfolding gcd lcm
leaves_at_the_end = refl

-- lane(2)
abbrev second_lane : ModifierTree
second_lane = modifier (codes "lane") (value (count 2) ∷ [])

-- 11: `lane(2)` holds there
second_lane_before_the_end : says second_lane (phase 2 0 2 (lanes (2 ∷ 2 ∷ 3 ∷ []))) ≡ holds
unfolding gcd lcm
second_lane_before_the_end = refl

-- ---- changes of the lane

-- change_lane(1, side: left)
abbrev changes_left : ModifierTree
changes_left = modifier (codes "change_lane") (value (count 1) ∷ naming (codes "side") (codes "left") ∷ [])

-- change_lane(2, side: right)
abbrev changes_right : ModifierTree
changes_right = modifier (codes "change_lane") (value (count 2) ∷ naming (codes "side") (codes "right") ∷ [])

-- change_lane(1)
abbrev changes : ModifierTree
changes = modifier (codes "change_lane") (value (count 1) ∷ [])

-- change_lane(0)
abbrev changes_nothing : ModifierTree
changes_nothing = modifier (codes "change_lane") (value (count 0) ∷ [])

-- 12: once to the left, in the middle of the phase
goes_left : says changes_left (phase 3 0 3 (lanes (1 ∷ 1 ∷ 2 ∷ 2 ∷ []))) ≡ holds
unfolding gcd lcm
goes_left = refl

-- 13: on the whole one lane to the left, but one step goes to the right
goes_right_first : says changes_left (phase 3 0 3 (lanes (2 ∷ 1 ∷ 2 ∷ 3 ∷ []))) ≡ fails
unfolding gcd lcm
goes_right_first = refl

-- 14: on the leftmost of three lanes there is no lane to go to
stays_on_the_last_lane : says changes_left (phase 2 0 2 (lanes (3 ∷ 3 ∷ 3 ∷ []))) ≡ fails
unfolding gcd lcm
stays_on_the_last_lane = refl

-- 15: two lanes to the right
goes_right_twice : says changes_right (phase 2 0 2 (lanes (3 ∷ 2 ∷ 1 ∷ []))) ≡ holds
unfolding gcd lcm
goes_right_twice = refl

-- 16: without a side, to the right
goes_either_way : says changes (phase 2 0 2 (lanes (2 ∷ 1 ∷ 1 ∷ []))) ≡ holds
unfolding gcd lcm
goes_either_way = refl

-- 17: without a side, there and back and there again
goes_to_and_fro : says changes (phase 3 0 3 (lanes (1 ∷ 2 ∷ 1 ∷ 2 ∷ []))) ≡ fails
unfolding gcd lcm
goes_to_and_fro = refl

-- 18: what changes before the phase and after it doesn't count
goes_before : says changes (phase 4 1 3 (lanes (1 ∷ 2 ∷ 2 ∷ 3 ∷ 2 ∷ []))) ≡ holds
unfolding gcd lcm
goes_before = refl

-- 19: a change is by one lane at least
changes_by_nothing : says changes_nothing (phase 1 0 1 (lanes (2 ∷ 2 ∷ []))) ≡ fails
unfolding gcd lcm
changes_by_nothing = refl

-- ---- headway

-- position(time: 2s, behind: c)
abbrev two_seconds_behind : ModifierTree
two_seconds_behind = modifier (codes "position") (named (codes "time") (physical 2 (codes "s")) ∷ naming (codes "behind") (codes "c") ∷ [])

-- position(time: [1s..2s], ahead_of: c)
abbrev ahead_in_time : ModifierTree
ahead_in_time = modifier (codes "position") (named (codes "time") (range (physical 1 (codes "s")) (physical 2 (codes "s"))) ∷ naming (codes "ahead_of") (codes "c") ∷ [])

-- position(time: 2s, behind: c, at: start)
abbrev behind_at_first : ModifierTree
behind_at_first = modifier (codes "position") (named (codes "time") (physical 2 (codes "s")) ∷ naming (codes "behind") (codes "c") ∷ naming (codes "at") (codes "start") ∷ [])

-- 20: two seconds at 25 m/s are 50 m
fifty_metres : says two_seconds_behind (record (phase 1 0 1 (sample 1 0 25000 ∷ sample 1 2500000 25000 ∷ [])) { other = (sample 1 50000000 30000 ∷ sample 1 53000000 30000 ∷ []) }) ≡ holds
unfolding gcd lcm
fifty_metres = refl

-- 21: and no micrometre less
less_than_fifty : says two_seconds_behind (record (phase 1 0 1 (sample 1 1 25000 ∷ sample 1 2500001 25000 ∷ [])) { other = (sample 1 50000000 30000 ∷ sample 1 53000000 30000 ∷ []) }) ≡ fails
unfolding gcd lcm
less_than_fifty = refl

-- 22: 30 m ahead of one that goes 20 m/s
time_of_the_one_behind : says ahead_in_time (record (phase 1 0 1 (sample 1 30000000 50000 ∷ sample 1 35000000 50000 ∷ [])) { other = (sample 1 0 20000 ∷ sample 1 2000000 20000 ∷ []) }) ≡ holds
unfolding gcd lcm
time_of_the_one_behind = refl

-- 23: at the start alone
behind_at_the_start : says behind_at_first (record (phase 2 0 2 (sample 1 0 25000 ∷ sample 1 2500000 25000 ∷ sample 1 5000000 25000 ∷ [])) { other = (sample 1 50000000 30000 ∷ sample 1 53000000 30000 ∷ sample 1 56000000 30000 ∷ []) }) ≡ holds
unfolding gcd lcm
behind_at_the_start = refl

-- 24: one that stands has no headway
stands_at_the_bumper : says two_seconds_behind (record (phase 1 0 1 (sample 1 10000000 0 ∷ sample 1 10000000 0 ∷ [])) { other = (sample 1 10000000 0 ∷ sample 1 10000000 0 ∷ []) }) ≡ holds
unfolding gcd lcm
stands_at_the_bumper = refl

-- ---- names of the standard

-- speed(speed: 20mps)
abbrev named_speed : ModifierTree
named_speed = modifier (codes "speed") (named (codes "speed") (physical 20 (codes "mps")) ∷ [])

-- lane(lane: [1..2])
abbrev named_lane : ModifierTree
named_lane = modifier (codes "lane") (named (codes "lane") (range (count 1) (count 2)) ∷ [])

-- position(distance: 10m, ahead_of: c)
abbrev named_distance : ModifierTree
named_distance = modifier (codes "position") (named (codes "distance") (physical 10 (codes "m")) ∷ naming (codes "ahead_of") (codes "c") ∷ [])

-- lane(side_of: c, side: left)
abbrev left_side : ModifierTree
left_side = modifier (codes "lane") (naming (codes "side_of") (codes "c") ∷ naming (codes "side") (codes "left") ∷ [])

-- lane(side: right, side_of: c)
abbrev right_side : ModifierTree
right_side = modifier (codes "lane") (naming (codes "side") (codes "right") ∷ naming (codes "side_of") (codes "c") ∷ [])

-- lane(side_of: c, side: same, at: end)
abbrev same_side : ModifierTree
same_side = modifier (codes "lane") (naming (codes "side_of") (codes "c") ∷ naming (codes "side") (codes "same") ∷ naming (codes "at") (codes "end") ∷ [])

-- 25: a speed with its name
speed_by_name : says named_speed (phase 1 0 1 (speeds (20000 ∷ 0 ∷ []))) ≡ holds
unfolding gcd lcm
speed_by_name = refl

-- 26: a lane with its name
lane_by_name : says named_lane (phase 2 0 2 (lanes (1 ∷ 2 ∷ 3 ∷ []))) ≡ holds
unfolding gcd lcm
lane_by_name = refl

-- 27: a distance with its name
distance_by_name : says named_distance (record (phase 1 0 1 (sample 1 10000000 0 ∷ sample 1 0 0 ∷ [])) { other = (sample 1 0 0 ∷ sample 1 0 0 ∷ []) }) ≡ holds
unfolding gcd lcm
distance_by_name = refl

-- 28: on the left of a lane is the next greater one
lane_on_the_left : says left_side (record (phase 1 0 1 (sample 2 0 0 ∷ sample 1 0 0 ∷ [])) { other = (sample 1 0 0 ∷ sample 1 0 0 ∷ []) }) ≡ holds
unfolding gcd lcm
lane_on_the_left = refl

-- 29: on the right is the next lesser one
lane_on_the_right : says right_side (record (phase 1 0 1 (sample 1 0 0 ∷ sample 1 0 0 ∷ [])) { other = (sample 2 0 0 ∷ sample 1 0 0 ∷ []) }) ≡ holds
unfolding gcd lcm
lane_on_the_right = refl

-- 30: the same lane at the end
lane_at_the_end : says same_side (record (phase 1 0 1 (sample 1 0 0 ∷ sample 2 0 0 ∷ [])) { other = (sample 2 0 0 ∷ sample 2 0 0 ∷ []) }) ≡ holds
unfolding gcd lcm
lane_at_the_end = refl

-- ---- what the table has no row for

-- speed()
no_speed : no_form (modifier (codes "speed") [])
no_speed = refl

-- speed(20mps, speed: 20mps)
speed_twice : no_form (modifier (codes "speed") (value (physical 20 (codes "mps")) ∷ named (codes "speed") (physical 20 (codes "mps")) ∷ []))
speed_twice = refl

-- keep_speed(1)
kept_with_a_value : no_form (modifier (codes "keep_speed") (value (count 1) ∷ []))
kept_with_a_value = refl

-- keep_speed(at: start)
kept_at_the_start : no_form (modifier (codes "keep_speed") (naming (codes "at") (codes "start") ∷ []))
kept_at_the_start = refl

-- acceleration()
no_acceleration : no_form (modifier (codes "acceleration") [])
no_acceleration = refl

-- change_lane(1, side: same)
change_to_the_same_side : no_form (modifier (codes "change_lane") (value (count 1) ∷ naming (codes "side") (codes "same") ∷ []))
change_to_the_same_side = refl

-- lane(side: left)
side_of_nothing : no_form (modifier (codes "lane") (naming (codes "side") (codes "left") ∷ []))
side_of_nothing = refl

-- lane(side_of: c)
side_alone : no_form (modifier (codes "lane") (naming (codes "side_of") (codes "c") ∷ []))
side_alone = refl

-- position(time: 2s)
time_of_nobody : no_form (modifier (codes "position") (named (codes "time") (physical 2 (codes "s")) ∷ []))
time_of_nobody = refl

-- position(2s, time: 2s, behind: c)
time_without_a_name : no_form (modifier (codes "position") (value (physical 2 (codes "s")) ∷ named (codes "time") (physical 2 (codes "s")) ∷ naming (codes "behind") (codes "c") ∷ []))
time_without_a_name = refl

-- speed(same_as: c, same_as: d)
two_others : no_form (modifier (codes "speed") (naming (codes "same_as") (codes "c") ∷ naming (codes "same_as") (codes "d") ∷ []))
two_others = refl

-- ---- what a range counts

-- metres a second squared
of_acceleration : dimension_in brakes ≡ Some (record { metres = pos 1; seconds = negsuc 1 })
of_acceleration = refl

-- seconds
of_headway : dimension_in two_seconds_behind ≡ Some (record { metres = pos 0; seconds = pos 1 })
of_headway = refl
