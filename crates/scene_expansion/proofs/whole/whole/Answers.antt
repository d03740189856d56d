use Rattle.std.proofs.Common.{◌∙◌, ap}
use Rattle.std.specs.List.{filter}
use Rattle.program_calls.specs.composition.Expanded.{can_be_asked}
use Rattle.program_calls.specs.composition.SeenScenes.{seen_scene}
use Rattle.scene_expansion.specs.Walks.{nodes_done}
use Rattle.scene_expansion.proofs.WholeScenes.{whole_is}
use Rattle.scene_expansion.proofs.whole.whole.Goals as goal

pub returns : goal.returns
returns g c =
    c.with_asked.ensures
    ∙ whole_is c.args.setting (g.L.WorkLayout.types c.args.layout.now).table.texts (nodes_done (g.L.WorkLayout.types c.args.layout.now) c.args.before.now) (nodes_done (g.L.WorkLayout.types c.args.layout.now) c.args.after.now)
    c.in_ok-scene.scene c.readable_occurrences-occurrences.result c.in_ok-modifiers.modifiers c.in_ok-scene.ensures
    (c.readable_occurrences-occurrences.ensures ∙ ap (filter (can_be_asked (seen_scene c.in_ok-scene.scene))) c.in_ok-occurrences.ensures)
    c.in_ok-modifiers.ensures
