use Rattle.std.proofs.Common.{◌≡◌, arith}
use Rattle.box_eval.specs.Verdict.{verdict_of}
use Rattle.leaf_bench.proofs.Modest.{one_at_most, round_more}
use Rattle.leaf_bench.proofs.judgements.judge_all.Goals as goal

pub judge_once-count-requires : goal.judge_once-count-requires
judge_once-count-requires c = c.requires.narrow

pub judge_once-count-requires-in-loop : goal.judge_once-count-requires-in-loop
judge_once-count-requires-in-loop c = c.requires.wide

pub loop-init : goal.loop-init
loop-init c = record { sum = omega arith; few = omega arith }

pub overflow_add-count : goal.overflow_add-count
overflow_add-count c = omega (arith, one_at_most (verdict_of c.args.narrow.now.pairs c.args.rule.now))

pub overflow_add-count-in-loop : goal.overflow_add-count-in-loop
overflow_add-count-in-loop c =
    omega (arith, one_at_most (verdict_of c.args.narrow.now.pairs c.args.rule.now), one_at_most (verdict_of c.args.wide.now.pairs c.args.rule.now))

pub loop-preserved : goal.loop-preserved
loop-preserved c = record {
  sum = round_more c.loop.count c.loop.counter _ _ _ _ c.loop.invariant.sum c.judge_once-count.ensures c.judge_once-count-in-loop.ensures;
  few = omega (arith, one_at_most (verdict_of c.args.narrow.now.pairs c.args.rule.now), one_at_most (verdict_of c.args.wide.now.pairs c.args.rule.now));
}

pub returns : goal.returns
returns c = let all : c.args.rounds ≡ c.loop.counter = omega arith in rw all c.loop.invariant.sum
