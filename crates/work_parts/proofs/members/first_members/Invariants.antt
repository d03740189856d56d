use Rattle.std.proofs.Common.{◌≡◌, ◌++◌, ◌-◌, map}
use Rattle.std.specs.List.{range_with_len}
use Rattle.osc_base.specs.Paths.{then_member}
use Rattle.work_parts.proofs.members.first_members.Given as goal

abbrev pub invariant-loop-number : goal.invariant-loop-number
invariant-loop-number l = l.members ++ map (then_member l.path) (range_with_len l.number (l.count - l.number)) ≡ map (then_member l.path) (range_with_len 0 l.count)
