use Rattle.std.proofs.Common.{◌∙◌}
use Rattle.flat_forms.specs.composition.SeenScenes.{seen_scene}
use Rattle.scene_search.proofs.Found.{by_plan}
use Rattle.scene_search.proofs.search.search_by_plan.Goals as goal

pub returns : goal.returns
returns c = by_plan (seen_scene c.args.scene.now) c.args.seed c.args.cuts c.args.flat.now c.search_flat.result c.as_slice.result.now (c.as_slice.ensures ∙ c.in_ok-plan.ensures) c.search_flat.ensures
