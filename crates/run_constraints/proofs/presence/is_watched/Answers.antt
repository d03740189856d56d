use Rattle.std.proofs.Common.{◌∙◌, ap, ap₂}
use Rattle.scene_conditions.specs.composition.Scenes.{Scene}
use Rattle.scene_conditions.specs.composition.SeenParts.{seen_modifier}
use Rattle.scene_conditions.specs.composition.There.{are_met, modifier_presence}
use Rattle.run_constraints.proofs.presence.is_watched.Goals as goal

pub returns : goal.returns
returns c =
    c.are_met.ensures
    ∙ ap₂ are_met c.run.ensures
    (c.as_slice.ensures ∙ c.in_ok-conditions.ensures ∙ ap (λ (s : Scene). modifier_presence s (seen_modifier c.args.modifier.now)) c.scene.ensures)
