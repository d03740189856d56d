use Rattle.std.proofs.Common.{◌∙◌, sym, arith}
use Rattle.field_flatten.specs.composition.Movement.{moves}
use Rattle.run_values.specs.SeenCourses.{seen_course}
use Rattle.run_values.proofs.Courses.{from_start, from_passing, from_last}
use Rattle.run_values.proofs.motion.Course.always_moves.Goals as goal

pub loop-tick-init : goal.loop-tick-init
loop-tick-init c = from_start (moves (seen_course c.args.self.now)) c.args.self.now.ticks

pub loop-tick-preserved : goal.loop-tick-preserved
loop-tick-preserved c =
    sym (from_passing (moves (seen_course c.args.self.now)) c.args.self.now.ticks c.loop-tick.tick c.loop-tick-test.true (sym c.moves.ensures ∙ c.if-not-moves.false))
    ∙ c.loop-tick.invariant

pub returns : goal.returns
returns c =
    c.moves-2.ensures
    ∙ sym (from_last (moves (seen_course c.args.self.now)) c.args.self.now.ticks c.loop-tick.tick (omega arith) (omega arith))
    ∙ c.loop-tick.invariant
