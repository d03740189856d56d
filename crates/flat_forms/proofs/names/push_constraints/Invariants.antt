use Rattle.std.proofs.Common.{◌≡◌, ◌++◌, map, drop}
use Rattle.scene_rules.specs.composition.Scenes.{Scene}
use Rattle.scene_rules.specs.composition.Items.{occurrence_items, item_name}
use Rattle.scene_rules.specs.composition.SeenParts.{seen_occurrence}
use Rattle.flat_forms.proofs.names.push_constraints.Given as goal

abbrev pub invariant-constraints : goal.invariant-constraints
invariant-constraints l =
    (scene : Scene) → l.names ++ map item_name (occurrence_items scene l.constraint-index (map seen_occurrence (drop l.constraint-index l.constraints)))
    ≡ l.fn.names ++ map item_name (occurrence_items scene 0 (map seen_occurrence l.constraints))
