-- The cut that a wish gives stands between the ends of its slot.
use Rattle.std.proofs.Common.{◌≡◌, refl, subst, ℕ, ◌+◌, ◌/◌, ◌%◌, ◌<◌, ◌≤◌, max, Bool, true, false, cond, eqb, not, ◌&&◌, ◌||◌, List, [], Option, arith, ℤ, pos, ◌+ℤ◌, ◌-ℤ◌, ◌*ℤ◌, ◌<ℤ◌, ◌≤ℤ◌}
use Rattle.std.proofs.lemmas.Bool.{and_parts}
use Rattle.std.proofs.lemmas.Int.{ints}
use Rattle.std.specs.Prelude.{unsigned_abs, int_lt, int_le, nat_eq}
use Rattle.osc_base.specs.Number.{IsFloor}
use Rattle.osc_base.proofs.Integers.{le_times, spread}
use Rattle.osc_base.proofs.Numbers.{floor_is}
use Rattle.box_eval.specs.declared.bounds.Pair.{Pair}
use Rattle.box_eval.specs.declared.cut.Cut.{Cut}
use Rattle.box_eval.specs.declared.cut.Side.{Side}
use Rattle.box_eval.specs.declared.cut.Side.TheVariants.{Low, High}
use Rattle.box_eval.specs.Box.{low_at, high_at, IsCutOf, cut_at}
use Rattle.box_eval.proofs.Parts.{wide_there}
use Rattle.search_plans.specs.Drawn.{picked, drawn}
use Rattle.search_plans.specs.declared.draw.Draw.{Draw}
use Rattle.search_plans.specs.declared.wish.Mean.{Mean}
use Rattle.search_plans.specs.declared.wish.Wish.{Wish}
use Rattle.search_plans.specs.declared.wish.Wish.TheVariants.{Free, Even, Around, Like}
use Rattle.search_plans.specs.Steps.{multiple, steps_in, steps_to, greatest_to, least_from, middle, eighth}
use Rattle.search_plans.specs.Wishes.{is_wide, sided, halved, beside, split, shared, even, within, around, lacks_mean, lacks_base, base_value, mean_of, inside, led, towards, like, wished_by, draw_at, wished}

-- ---- cuts between the ends

-- a cut of a draw's slot, at a value that leaves both parts one
pub record Splits (d : Draw) (cut : Cut) : Type 0 where
  pub of_slot : cut.slot ≡ d.slot
  pub least : d.low ≤ℤ cut.value
  pub most : cut.value <ℤ d.high

either : (d : Draw) (b : Bool) (x y : Cut) → (b ≡ true → Splits d x) → (b ≡ false → Splits d y) → Splits d (cond b x y)
either d true x y p q = p refl
either d false x y p q = q refl

at_value : (d : Draw) (side : Side) (v : ℤ) → d.low ≤ℤ v → v <ℤ d.high → Splits d (cut_at side d.slot v)
at_value d side v p q = record { of_slot = refl; least = p; most = q }

-- ---- a free draw

picked_in : (n : ℕ) (low high : ℤ) → low <ℤ high → (low ≤ℤ picked n low high) × (picked n low high <ℤ high)
picked_in n low high wide =
    let width : 0 < unsigned_abs (high -ℤ low) = omega (arith, ints) in
    let less : n / 4 % unsigned_abs (high -ℤ low) < unsigned_abs (high -ℤ low) = omega arith in
    (omega (arith, ints), omega (arith, ints))

free_splits : (d : Draw) → d.low <ℤ d.high → Splits d (drawn d.number d.slot d.low d.high)
free_splits d wide =
    let p = picked_in d.number d.low d.high wide in
    either d (eqb (d.number % 4) 0) _ _ (λ _. at_value d Low d.low (omega (arith, ints)) wide) (λ _.
    either d (eqb (d.number % 4) 1) _ _ (λ _. at_value d High (d.high -ℤ pos 1) (omega (arith, ints)) (omega (arith, ints))) (λ _.
    either d (eqb (d.number % 4) 2) _ _ (λ _. at_value d Low (picked d.number d.low d.high) p.0 p.1) (λ _. at_value d High (picked d.number d.low d.high) p.0 p.1)))

-- ---- in the middle, and beside a value

middle_in : (low high : ℤ) → low <ℤ high → (low ≤ℤ middle low high) × (middle low high <ℤ high)
unfolding middle
middle_in low high wide =
    let f = floor_is (high -ℤ low) (pos 2) (omega (arith, ints)) in
    (omega (arith, ints, f.not_above, f.next_above), omega (arith, ints, f.not_above, f.next_above))

pub halved_splits : (d : Draw) → d.low <ℤ d.high → Splits d (halved d)
unfolding halved
halved_splits d wide = let m = middle_in d.low d.high wide in at_value d _ (middle d.low d.high) m.0 m.1

pub beside_splits : (d : Draw) (wanted : ℤ) → d.low <ℤ d.high → Splits d (beside d wanted)
unfolding beside
beside_splits d wanted wide =
    either d (int_le d.high wanted) _ _ (λ _. at_value d High (d.high -ℤ pos 1) (omega (arith, ints)) (omega (arith, ints))) (λ over.
    either d (int_le wanted d.low) _ _ (λ _. at_value d Low d.low (omega (arith, ints)) wide) (λ under.
    either d (nat_eq (d.number / 16 % 2) 0) _ _
    (λ _. at_value d Low wanted (omega (arith, ints, over, under)) (omega (arith, ints, over, under)))
    (λ _. at_value d High (wanted -ℤ pos 1) (omega (arith, ints, over, under)) (omega (arith, ints, over, under)))))

-- ---- an even draw

-- the last number before a multiple
between_low : (low first mid n : ℤ) → pos 1 ≤ℤ n → (low -ℤ pos 1) <ℤ (first *ℤ n) → first ≤ℤ mid → low ≤ℤ ((mid +ℤ pos 1) *ℤ n -ℤ pos 1)
between_low low first mid n above h after =
    let a = le_times first mid n above after in
    let e = spread mid (pos 1) n in
    omega (arith, ints, a, e, h, above)

between_high : (mid last high n : ℤ) → pos 1 ≤ℤ n → (mid +ℤ pos 1) ≤ℤ last → (last *ℤ n) ≤ℤ high → ((mid +ℤ pos 1) *ℤ n -ℤ pos 1) <ℤ high
between_high mid last high n above before h =
    let a = le_times (mid +ℤ pos 1) last n above before in
    omega (arith, ints, a, h)

pub above_low : (step : ℕ) (low last : ℤ) → steps_to step low <ℤ last → low ≤ℤ (multiple step (middle (steps_to step low) last +ℤ pos 1) -ℤ pos 1)
unfolding multiple steps_in
above_low step low last ordered =
    let above : pos 1 ≤ℤ pos (max 1 step) = omega (arith, ints) in
    let f = floor_is (low -ℤ pos 1) (pos (max 1 step)) above in
    between_low low (steps_to step low) (middle (steps_to step low) last) (pos (max 1 step)) above f.next_above (middle_in (steps_to step low) last ordered).0

pub below_high : (step : ℕ) (first high : ℤ) → first <ℤ steps_in step high → (multiple step (middle first (steps_in step high) +ℤ pos 1) -ℤ pos 1) <ℤ high
unfolding multiple steps_in
below_high step first high ordered =
    let above : pos 1 ≤ℤ pos (max 1 step) = omega (arith, ints) in
    let f = floor_is high (pos (max 1 step)) above in
    let m = (middle_in first (steps_in step high) ordered).1 in
    between_high (middle first (steps_in step high)) (steps_in step high) high (pos (max 1 step)) above (omega (arith, ints, m)) f.not_above

pub even_splits : (step : ℕ) (d : Draw) → d.low <ℤ d.high → Splits d (even step d)
unfolding even
even_splits step d wide =
    let first = steps_to step d.low in
    let last = steps_in step d.high in
    either d (int_lt first last) _ _
    (λ more. let o : first <ℤ last = omega (arith, ints, more) in
    at_value d _ (multiple step (middle first last +ℤ pos 1) -ℤ pos 1) (above_low step d.low last o) (below_high step first d.high o))
    (λ _. either d (int_le first last) _ _ (λ _. beside_splits d (multiple step first) wide) (λ _. halved_splits d wide))

-- ---- around a value

within_splits : (value : ℤ) (reach step : ℕ) (d : Draw) → d.low <ℤ d.high → Splits d (within value reach step d)
unfolding within
within_splits value reach step d wide =
    let least = value -ℤ pos reach in
    let greatest = value +ℤ pos reach in
    either d (int_lt d.low least && int_le least d.high) _ _
    (λ h. let p = and_parts (int_lt d.low least) (int_le least d.high) h in at_value d High (least -ℤ pos 1) (omega (arith, ints, p.0, p.1)) (omega (arith, ints, p.0, p.1)))
    (λ _. either d (int_le d.low greatest && int_lt greatest d.high) _ _
    (λ h. let p = and_parts (int_le d.low greatest) (int_lt greatest d.high) h in at_value d Low greatest (omega (arith, ints, p.0, p.1)) (omega (arith, ints, p.0, p.1)))
    (λ _. even_splits step d wide))

around_splits : (ends : List Pair) (near reach step : ℕ) (d : Draw) → d.low <ℤ d.high → Splits d (around ends near reach step d)
around_splits ends near reach step d wide =
    either d (is_wide ends near) _ _ (λ _. even_splits step d wide) (λ _. within_splits (low_at ends near) reach step d wide)

-- ---- like a mean

led_splits : (step : ℕ) (base : ℤ) (d : Draw) (wanted first last : ℤ) → d.low <ℤ d.high → Splits d (led step base d wanted first last)
unfolding led
led_splits step base d wanted first last wide =
    either d (int_le first last) _ _ (λ _. beside_splits d (inside step base first last wanted) wide) (λ _. halved_splits d wide)

towards_splits : (step : ℕ) (base : ℤ) (d : Draw) (mean : ℤ) → d.low <ℤ d.high → Splits d (towards step base d mean)
unfolding towards
towards_splits step base d mean wide = led_splits step base d _ _ _ wide

like_splits : (ends : List Pair) (mean : Mean) (base : Option ℕ) (step : ℕ) (d : Draw) → d.low <ℤ d.high → Splits d (like ends mean base step d)
unfolding like
like_splits ends mean base step d wide =
    either d (lacks_mean ends mean || lacks_base ends base) _ _ (λ _. halved_splits d wide) (λ _. towards_splits step (base_value ends base) d (mean_of ends mean) wide)

-- ---- wishes

wish_splits : (wish : Wish) (ends : List Pair) (d : Draw) → d.low <ℤ d.high → Splits d (wished_by wish ends d)
wish_splits Free ends d wide = free_splits d wide
wish_splits (Even step) ends d wide = even_splits step d wide
wish_splits (Around near reach step) ends d wide = around_splits ends near reach step d wide
wish_splits (Like mean base step) ends d wide = like_splits ends mean base step d wide

cut_of : (ends : List Pair) (slot number : ℕ) (cut : Cut) → low_at ends slot <ℤ high_at ends slot → Splits (draw_at ends slot number) cut → IsCutOf ends cut
cut_of ends slot number cut wide s = record {
  slot_there = rw s.of_slot (wide_there ends slot wide);
  low = rw s.of_slot s.least;
  high = rw s.of_slot s.most;
}

-- whatever is wished: an open slot is cut
pub wished_cuts : (wish : Wish) (ends : List Pair) (slot number : ℕ) → low_at ends slot <ℤ high_at ends slot → IsCutOf ends (wished wish ends slot number)
wished_cuts wish ends slot number wide = cut_of ends slot number _ wide (wish_splits wish ends (draw_at ends slot number) wide)

-- ---- the same of numbers that code has

pub placed_low : (step : ℕ) (low first last value : ℤ) → first <ℤ last → first ≡ steps_to step low → value ≡ multiple step (middle first last +ℤ pos 1) -ℤ pos 1 → low ≤ℤ value
placed_low step low first last value ordered is at = rw (at, is) (above_low step low last (subst (λ f. f <ℤ last) is ordered))

pub placed_high : (step : ℕ) (high first last value : ℤ) → first <ℤ last → last ≡ steps_in step high → value ≡ multiple step (middle first last +ℤ pos 1) -ℤ pos 1 → value <ℤ high
placed_high step high first last value ordered is at = rw (at, is) (below_high step first high (subst (λ l. first <ℤ l) is ordered))
