use Rattle.std.proofs.Common.{◌≡◌, ◌∙◌, arith, to_z, of_z}
use Rattle.std.proofs.lemmas.Int.{ints}
use Rattle.std.specs.Int.{w128}
use Rattle.box_eval.proofs.Worth.{sum_fits, less_fits, times_fits, parts_value}
use Rattle.box_eval.proofs.point.+values.Goals as goal

pub value-worked_out-requires-clause-sum : goal.value-worked_out-requires-clause-sum
value-worked_out-requires-clause-sum t c =
    let first : to_z w128 (of_z w128 c.value.result) ≡ c.value.result = omega (arith, ints) in
    let second : to_z w128 (of_z w128 c.value-in-Sum.result) ≡ c.value-in-Sum.result = omega (arith, ints) in
    sum_fits c.args.point.now c.args.term.now c.in-Sum.a c.in-Sum.b _ _ record {
      is = c.in-Sum.is;
      read_a = c.get-in-Sum.result.now;
      a_is = c.get-in-Sum.ensures;
      first = first ∙ c.value.ensures;
      read_b = c.get-in-Sum-2.result.now;
      b_is = c.get-in-Sum-2.ensures;
      second = second ∙ c.value-in-Sum.ensures;
      small = c.requires.reach;
    }

pub value-worked_out-requires-clause-less : goal.value-worked_out-requires-clause-less
value-worked_out-requires-clause-less t c =
    let first : to_z w128 (of_z w128 c.value.result) ≡ c.value.result = omega (arith, ints) in
    let second : to_z w128 (of_z w128 c.value-in-Sum.result) ≡ c.value-in-Sum.result = omega (arith, ints) in
    less_fits c.args.point.now c.args.term.now c.in-Sum.a c.in-Sum.b _ _ record {
      is = c.in-Sum.is;
      read_a = c.get-in-Sum.result.now;
      a_is = c.get-in-Sum.ensures;
      first = first ∙ c.value.ensures;
      read_b = c.get-in-Sum-2.result.now;
      b_is = c.get-in-Sum-2.ensures;
      second = second ∙ c.value-in-Sum.ensures;
      small = c.requires.reach;
    }

pub value-worked_out-requires-clause-times : goal.value-worked_out-requires-clause-times
value-worked_out-requires-clause-times t c =
    let first : to_z w128 (of_z w128 c.value.result) ≡ c.value.result = omega (arith, ints) in
    let second : to_z w128 (of_z w128 c.value-in-Sum.result) ≡ c.value-in-Sum.result = omega (arith, ints) in
    times_fits c.args.point.now c.args.term.now c.in-Sum.a c.in-Sum.b _ _ record {
      is = c.in-Sum.is;
      read_a = c.get-in-Sum.result.now;
      a_is = c.get-in-Sum.ensures;
      first = first ∙ c.value.ensures;
      read_b = c.get-in-Sum-2.result.now;
      b_is = c.get-in-Sum-2.ensures;
      second = second ∙ c.value-in-Sum.ensures;
      small = c.requires.reach;
    }

pub value-returns-in-Sum : goal.value-returns-in-Sum
value-returns-in-Sum t c =
    let first : to_z w128 (of_z w128 c.value.result) ≡ c.value.result = omega (arith, ints) in
    let second : to_z w128 (of_z w128 c.value-in-Sum.result) ≡ c.value-in-Sum.result = omega (arith, ints) in
    let whole : to_z w128 (of_z w128 c.worked_out.result) ≡ c.worked_out.result = omega (arith, ints) in
    parts_value c.args.point.now c.args.term.now c.in-Sum.a c.in-Sum.b _ _ record {
      is = c.in-Sum.is;
      read_a = c.get-in-Sum.result.now;
      a_is = c.get-in-Sum.ensures;
      first = first ∙ c.value.ensures;
      read_b = c.get-in-Sum-2.result.now;
      b_is = c.get-in-Sum-2.ensures;
      second = second ∙ c.value-in-Sum.ensures;
      small = c.requires.reach;
    } _
    (λ x y e. whole ∙ c.worked_out.ensures.sum x y e)
    (λ x y e. whole ∙ c.worked_out.ensures.less x y e)
    (λ x y e. whole ∙ c.worked_out.ensures.times x y e)
