use Rattle.std.proofs.Common.{◌∙◌, ap}
use Rattle.std.specs.List.{filter}
use Rattle.program_calls.specs.composition.Expanded.{can_apply}
use Rattle.program_calls.specs.composition.SeenScenes.{seen_scene}
use Rattle.scene_expansion.proofs.whole.applied.Goals as goal

pub returns : goal.returns
returns g c = c.in_ok-applied.ensures ∙ ap (filter (can_apply (seen_scene c.args.scene.now))) c.in_ok-modifiers.ensures
