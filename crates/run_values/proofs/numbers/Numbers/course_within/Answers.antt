use Rattle.std.proofs.Common.{◌∙◌, ap, w64}
use Rattle.std.proofs.lemmas.Int.{to_z-of_z}
use Rattle.field_flatten.specs.composition.declared.setting.Setting.{Setting}
use Rattle.field_flatten.specs.composition.Items.{field_number}
use Rattle.run_values.specs.SeenNumbers.{scene_in, run_in}
use Rattle.run_values.proofs.Courses.{course_same}
use Rattle.run_values.proofs.numbers.Numbers.course_within.Goals as goal

pub returns : goal.returns
returns c =
    course_same (scene_in c.args.self.now) (run_in c.args.self.now) c.args.vehicle.now c.course_with.result
    (c.course_with.ensures.tick ∙ c.tick.ensures) (c.course_with.ensures.ticks ∙ ap (λ (s : Setting). s.ticks) c.setting.ensures)
    (c.course_with.ensures.end ∙ c.end.ensures)
    (c.course_with.ensures.max_speed ∙ to_z-of_z w64 c.field.result (record { sfits = c.field.type_inv }) ∙ c.field.ensures
    ∙ ap (field_number (scene_in c.args.self.now) (run_in c.args.self.now)) c.requires.speed)
    (c.course_with.ensures.max_acceleration ∙ to_z-of_z w64 c.field-2.result (record { sfits = c.field-2.type_inv }) ∙ c.field-2.ensures
    ∙ ap (field_number (scene_in c.args.self.now) (run_in c.args.self.now)) c.requires.acceleration)
    (c.course_with.ensures.samples ∙ c.samples.ensures)
