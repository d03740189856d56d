use Rattle.std.proofs.Common.{◌∙◌, ap, ◌+◌}
use Rattle.std.specs.List.{list_all, range_with_len}
use Rattle.field_flatten.specs.composition.Movement.{Course, moves}
use Rattle.run_values.proofs.numbers.Numbers.always_moves.Goals as goal

pub returns : goal.returns
returns c = c.always_moves.ensures ∙ ap (λ (z : Course). list_all (moves z) (range_with_len 0 (z.ticks + 1))) c.in_ok-course.ensures
