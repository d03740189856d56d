use Rattle.std.proofs.Common.{◌≡◌, ◌+◌}
use Rattle.std.specs.List.{list_all, range_with_len}
use Rattle.field_flatten.specs.composition.Movement.{moves}
use Rattle.run_values.specs.SeenCourses.{seen_course}
use Rattle.run_values.proofs.Courses.{from_tick}
use Rattle.run_values.proofs.motion.Course.always_moves.Given as goal

abbrev pub invariant-loop-tick : goal.invariant-loop-tick
invariant-loop-tick l = from_tick (moves (seen_course l.self)) l.self.ticks l.tick ≡ list_all (moves (seen_course l.self)) (range_with_len 0 (l.self.ticks + 1))
