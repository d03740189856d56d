use Rattle.std.proofs.Common.{◌≡◌, ◌≤◌}
use Rattle.wake_ring.proofs.tests.stays_in_step_with_a_plain_list.Given as goal

abbrev pub invariant-loop-k : goal.invariant-loop-k
invariant-loop-k g l = (l.ring.bound ≡ 64) × (l.pushed ≤ l.k-counter) × (l.removed ≤ l.k-counter) × (l.popped ≤ l.k-counter)
