use Rattle.std.proofs.Common.{◌≡◌, ◌+◌}
use Rattle.std.specs.List.{list_all, range_with_len}
use Rattle.run_values.proofs.Courses.{from_tick}
use Rattle.run_constraints.specs.Watched.{watch_holds}
use Rattle.run_constraints.proofs.modifiers.Watch.always_holds.Given as goal

abbrev pub invariant-loop-tick : goal.invariant-loop-tick
invariant-loop-tick l = from_tick (watch_holds l.self) l.ticks l.tick ≡ list_all (watch_holds l.self) (range_with_len 0 (l.ticks + 1))
