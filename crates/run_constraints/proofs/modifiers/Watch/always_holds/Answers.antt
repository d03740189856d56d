use Rattle.std.proofs.Common.{◌∙◌, sym, arith}
use Rattle.run_values.proofs.Courses.{from_start, from_passing, from_last}
use Rattle.run_constraints.specs.Watched.{watch_holds}
use Rattle.run_constraints.proofs.modifiers.Watch.always_holds.Goals as goal

pub loop-tick-init : goal.loop-tick-init
loop-tick-init c = from_start (watch_holds c.args.self.now) c.args.ticks

pub loop-tick-preserved : goal.loop-tick-preserved
loop-tick-preserved c =
    sym (from_passing (watch_holds c.args.self.now) c.args.ticks c.loop-tick.tick c.loop-tick-test.true (sym c.holds_at.ensures ∙ c.if-not-holds_at.false))
    ∙ c.loop-tick.invariant

pub returns : goal.returns
returns c =
    c.holds_at-2.ensures ∙ sym (from_last (watch_holds c.args.self.now) c.args.ticks c.loop-tick.tick (omega arith) (omega arith)) ∙ c.loop-tick.invariant
