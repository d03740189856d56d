-- The middle of a lane is read back from its text, and tells the lane.
use Rattle.std.proofs.Common.{◌≡◌, ◌∙◌, refl, sym, ap, arith, ℕ, suc, ◌+◌, ◌*◌, ◌^◌, ◌<◌, ◌≤◌, true, false, List, ◌++◌}
use Rattle.std.specs.Prelude.{ℤ, pos, negsuc, ◌-ℤ◌, ◌*ℤ◌, ◌≤ℤ◌, neg_ℤ, unsigned_abs}
use Rattle.std.specs.List.{list_all}
use Rattle.std.specs.Fmt.{sign_text}
use Rattle.std.specs.Int.{is_negative}
use Rattle.std.proofs.Math.Nat.{mul-le-mul_left}
use Rattle.std.proofs.lemmas.Int.{ints}
use Rattle.osc_base.proofs.Integers.{le_cancel}
use Rattle.run_exports.specs.Decimals.{fixed}
use Rattle.run_exports.specs.Plain.{is_plain}
use Rattle.run_exports.specs.Reading.{scaled, signed_scaled}
use Rattle.run_exports.specs.World.{halves, middle, across}
use Rattle.run_exports.specs.declared.road.Road.{Road}
use Rattle.run_exports.proofs.Cuts.{joined}
use Rattle.run_exports.proofs.PlainTexts.{fixed_plain, sign_plain}
use Rattle.run_exports.proofs.NumbersBack.{above, unsigned, fixed_unsigned, millionths_back}

product_back : (z : ℤ) (m : ℕ) → unsigned_abs z * m < 10 ^ 64
    → signed_scaled 6 (sign_text (is_negative z) ++ fixed 6 (unsigned_abs z * m)) ≡ z *ℤ pos m
product_back (pos n) m h =
    ap (λ b. signed_scaled 6 (sign_text b ++ fixed 6 (n * m))) (above n)
    ∙ unsigned 6 (fixed 6 (n * m)) (fixed_unsigned 6 (n * m) (omega arith) (omega arith))
    ∙ ap pos (millionths_back (n * m) h)
product_back (negsuc n) m h = ap (λ k. neg_ℤ (pos k)) (millionths_back (suc n * m) h)

-- the size of a lane's middle
size_of : (lanes : ℕ) (lane : ℤ) → lanes < 2 ^ 32 → unsigned_abs lane < 10 ^ 32 → unsigned_abs (halves lanes lane) ≤ 10 ^ 33
size_of lanes (pos k) small h = omega (arith, ints)
size_of lanes (negsuc k) small h = omega (arith, ints)

pub across_fits : (road : Road) (lane : ℤ) → road.lanes < 2 ^ 32 → road.lane_width < 2 ^ 32 → unsigned_abs lane < 10 ^ 32
    → unsigned_abs (halves road.lanes lane) * (500 * road.lane_width) < 10 ^ 64
across_fits road lane few narrow h =
    let size : unsigned_abs (halves road.lanes lane) ≤ 10 ^ 33 = size_of road.lanes lane few h in
    let wide : 500 * road.lane_width ≤ 10 ^ 13 = omega arith in
    product_fits (unsigned_abs (halves road.lanes lane)) (500 * road.lane_width) size wide
  where
    product_fits : (a b : ℕ) → a ≤ 10 ^ 33 → b ≤ 10 ^ 13 → a * b < 10 ^ 64
    product_fits a b p q = omega (arith, mul-le-mul_left a q)

pub across_back : (road : Road) (lane : ℤ) → unsigned_abs (halves road.lanes lane) * (500 * road.lane_width) < 10 ^ 64
    → signed_scaled 6 (across road lane) ≡ middle road lane
unfolding across
across_back road lane h = product_back (halves road.lanes lane) (500 * road.lane_width) h

pub across_plain : (road : Road) (lane : ℤ) → unsigned_abs (halves road.lanes lane) * (500 * road.lane_width) < 10 ^ 64
    → list_all is_plain (across road lane) ≡ true
unfolding across
across_plain road lane h =
    joined is_plain (sign_text (is_negative (halves road.lanes lane))) (fixed 6 (unsigned_abs (halves road.lanes lane) * (500 * road.lane_width)))
    (sign_plain (is_negative (halves road.lanes lane)))
    (fixed_plain 6 (unsigned_abs (halves road.lanes lane) * (500 * road.lane_width)) (omega arith) (omega arith))

-- ---- lanes

halves_tell : (n : ℕ) (a b : ℤ) → halves n a ≡ halves n b → a ≡ b
halves_tell n a b h = omega (arith, ints)

pub middle_tells : (road : Road) (a b : ℤ) → 0 < road.lane_width → middle road a ≡ middle road b → a ≡ b
middle_tells road a b wide same =
    let far = pos (500 * road.lane_width) in
    let some : pos 1 ≤ℤ far = omega (arith, ints) in
    let one : (middle road a) ≤ℤ (middle road b) = omega (arith, ints) in
    let two : (middle road b) ≤ℤ (middle road a) = omega (arith, ints) in
    let under : halves road.lanes a ≤ℤ halves road.lanes b = le_cancel (halves road.lanes a) (halves road.lanes b) far some one in
    let over : halves road.lanes b ≤ℤ halves road.lanes a = le_cancel (halves road.lanes b) (halves road.lanes a) far some two in
    halves_tell road.lanes a b (omega (arith, ints))
