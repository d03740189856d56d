use Rattle.std.proofs.Common.{◌∙◌, sym}
use Rattle.field_flatten.specs.composition.Items.{course_of}
use Rattle.field_flatten.specs.composition.Movement.{moves}
use Rattle.field_flatten.specs.composition.Slots.{ticks_of}
use Rattle.field_flatten.specs.composition.There.{is_there}
use Rattle.run_values.specs.SeenNumbers.{scene_in, run_in}
use Rattle.run_values.proofs.Courses.{answers, all_there, all_absent}
use Rattle.run_values.proofs.numbers.Numbers.moves.Goals as goal

pub returns-then-is_there : goal.returns-then-is_there
returns-then-is_there c =
    answers c.always_moves.result _ _ c.always_moves.ensures
    (all_there (is_there (scene_in c.args.self.now) (run_in c.args.self.now) c.args.vehicle.now) (moves (course_of (scene_in c.args.self.now) (run_in c.args.self.now) c.args.vehicle.now))
    (ticks_of (scene_in c.args.self.now).setting) (sym c.is_there.ensures ∙ c.if-is_there.true))

pub returns-else-is_there : goal.returns-else-is_there
returns-else-is_there c =
    all_absent (is_there (scene_in c.args.self.now) (run_in c.args.self.now) c.args.vehicle.now) (moves (course_of (scene_in c.args.self.now) (run_in c.args.self.now) c.args.vehicle.now))
    (ticks_of (scene_in c.args.self.now).setting) (sym c.is_there.ensures ∙ c.if-is_there.false)
