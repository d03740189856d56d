use Rattle.std.proofs.Common.{◌≡◌, length, not}
use Rattle.std.specs.Prelude.{find}
use Rattle.std.specs.List.{list_all}
use Rattle.field_flatten.specs.composition.Items.{motion_holds}
use Rattle.field_flatten.specs.composition.Scenes.{vehicles}
use Rattle.field_flatten.specs.composition.Slots.{ticks_of}
use Rattle.run_values.specs.SeenNumbers.{scene_in, run_in}
use Rattle.run_values.proofs.numbers.Numbers.first_unmoving.Given as goal

abbrev pub invariant-loop-rest : goal.invariant-loop-rest
invariant-loop-rest l =
    find (λ v. not (list_all (motion_holds (scene_in l.self) (run_in l.self) v) (ticks_of (scene_in l.self).setting))) l.rest
    ≡ find (λ v. not (list_all (motion_holds (scene_in l.self) (run_in l.self) v) (ticks_of (scene_in l.self).setting))) (vehicles (scene_in l.self))

abbrev pub decreases-loop-rest : goal.decreases-loop-rest
decreases-loop-rest l = length l.rest
