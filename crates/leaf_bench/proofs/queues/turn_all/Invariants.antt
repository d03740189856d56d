use Rattle.std.proofs.Common.{◌≡◌, ◌*◌, ◌≤◌}
use Rattle.wake_ring.specs.Queue.{queue}
use Rattle.leaf_bench.specs.Turns.{queue_after, sum_after}
use Rattle.leaf_bench.proofs.queues.turn_all.Given as goal

abbrev pub invariant-loop-round : goal.invariant-loop-round
invariant-loop-round l = record {
  queue : l.ring ≡ queue 64 (queue_after l.round);
  sum : l.sum ≡ sum_after l.round;
  few : l.sum ≤ l.round * 66;
}
