use Rattle.std.proofs.Common.{◌≡◌, length, true, map, not}
use Rattle.std.specs.Prelude.{find}
use Rattle.std.specs.List.{list_all}
use Rattle.scene_conditions.specs.composition.SeenParts.{seen_modifier}
use Rattle.scene_conditions.specs.composition.Scenes.{ModifierSpot}
use Rattle.scene_conditions.specs.composition.Items.{modifier_holds}
use Rattle.scene_conditions.specs.composition.Invariants.{is_modifier}
use Rattle.scene_conditions.specs.composition.Slots.{ticks_of}
use Rattle.run_values.specs.field_flatten.Exactness.{is_narrow_range}
use Rattle.run_values.specs.SeenNumbers.{scene_in, run_in}
use Rattle.run_constraints.proofs.modifiers.first_modifier.Given as goal

abbrev pub invariant-loop-rest : goal.invariant-loop-rest
invariant-loop-rest l =
    (find (λ (m : ModifierSpot). not (list_all (modifier_holds (scene_in l.numbers) (run_in l.numbers) m) (ticks_of (scene_in l.numbers).setting))) (map seen_modifier l.rest) ≡ find (λ (m : ModifierSpot). not (list_all (modifier_holds (scene_in l.numbers) (run_in l.numbers) m) (ticks_of (scene_in l.numbers).setting))) (scene_in l.numbers).modifiers)
    × (list_all (is_modifier (scene_in l.numbers)) (map seen_modifier l.rest) ≡ true)
    × (list_all is_narrow_range (map seen_modifier l.rest) ≡ true)

abbrev pub decreases-loop-rest : goal.decreases-loop-rest
decreases-loop-rest l = length l.rest
