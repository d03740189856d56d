use Rattle.std.proofs.Common.{◌≡◌, ◌+◌, ◌*◌, ◌≤◌}
use Rattle.box_eval.specs.Verdict.{verdict_of}
use Rattle.leaf_bench.specs.Small.{number_open}
use Rattle.leaf_bench.proofs.judgements.judge_all.Given as goal

abbrev pub invariant-loop : goal.invariant-loop
invariant-loop l = record {
  sum : l.count ≡ l.counter * (number_open (verdict_of l.narrow.pairs l.rule) + number_open (verdict_of l.wide.pairs l.rule));
  few : l.count ≤ l.counter * 2;
}
