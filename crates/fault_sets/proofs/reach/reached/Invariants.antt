use Rattle.std.proofs.Common.{◌-◌, []}
use Rattle.type_heads.specs.Cycles.{reached}
use Rattle.fault_sets.proofs.Rounds.{RoundsLeft}
use Rattle.fault_sets.proofs.reach.reached.Given as goal

abbrev pub invariant-loop-round : goal.invariant-loop-round
invariant-loop-round g l =
    RoundsLeft (g.S.Steps.next l.steps) (reached l.fn.rounds (g.S.Steps.next l.steps) [] l.fn.start.items) (l.rounds - l._round) l.met l.found.items l.new.items
