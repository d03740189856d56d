use Rattle.std.proofs.Common.{◌≡◌, ◌∙◌, ap₂, ℤ, pos, ◌*ℤ◌, slice_index_or, arith, to_z, of_z}
use Rattle.std.proofs.lemmas.Int.{ints}
use Rattle.std.specs.Int.{w128, w64, int_min}
use Rattle.box_eval.specs.Box.{value_of, low_at, high_at}
use Rattle.linear_sums.proofs.Gathering.{index_value}
use Rattle.linear_sums.proofs.Taking.{slot_size, taken_at}
use Rattle.linear_sums.proofs.least.take_at.Goals as goal

pub lesser-least-requires : goal.lesser-least-requires
lesser-least-requires g c =
    let ends = g.E.Ends.ends c.args.ends.now in
    let v : to_z w128 (of_z w128 (slice_index_or c.args.sums.now c.args.slot (pos 0))) ≡ value_of c.args.sums.now c.args.slot = omega (arith, ints, index_value c.args.sums.now c.args.slot) in
    let l : to_z w64 (of_z w64 c.low.result) ≡ low_at ends c.args.slot = omega (arith, ints, c.low.ensures) in
    let h : to_z w64 (of_z w64 c.high.result) ≡ high_at ends c.args.slot = omega (arith, ints, c.high.ensures) in
    rw (v, l, h) (omega (arith, slot_size ends c.args.sums.now c.args.slot c.requires.slots c.requires.long, c.requires.small))

pub returns : goal.returns
returns g c =
    let ends = g.E.Ends.ends c.args.ends.now in
    let v : to_z w128 (of_z w128 (slice_index_or c.args.sums.now c.args.slot (pos 0))) ≡ value_of c.args.sums.now c.args.slot = omega (arith, ints, index_value c.args.sums.now c.args.slot) in
    let l : to_z w64 (of_z w64 c.low.result) ≡ low_at ends c.args.slot = omega (arith, ints, c.low.ensures) in
    let h : to_z w64 (of_z w64 c.high.result) ≡ high_at ends c.args.slot = omega (arith, ints, c.high.ensures) in
    let r : to_z w128 (of_z w128 c.lesser-least.result) ≡ c.lesser-least.result = omega (arith, ints) in
    taken_at ends c.args.sums.now c.args.slot c.requires.slots c.requires.long _
    (r ∙ c.lesser-least.ensures ∙ ap₂ (λ (m n : ℤ). int_min m n) (ap₂ (λ (m n : ℤ). m *ℤ n) v l) (ap₂ (λ (m n : ℤ). m *ℤ n) v h))
