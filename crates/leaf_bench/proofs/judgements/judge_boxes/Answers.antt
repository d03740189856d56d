use Rattle.std.proofs.Common.{pos, arith}
use Rattle.std.proofs.lemmas.Int.{ints}
use Rattle.leaf_bench.proofs.Modest.{can_judge}
use Rattle.leaf_bench.proofs.judgements.judge_boxes.Goals as goal

pub judge_all-requires : goal.judge_all-requires
judge_all-requires c = record {
  narrow = rw (c.in_ok-narrow.ensures, c.requires) (can_judge (pos 3) (omega (arith, ints)) (omega (arith, ints)));
  wide = rw (c.in_ok-wide.ensures, c.requires) (can_judge (pos 20) (omega (arith, ints)) (omega (arith, ints)));
}

pub returns : goal.returns
returns c = rw (c.in_ok-narrow.ensures, c.in_ok-wide.ensures, c.requires) at c.judge_all.ensures
