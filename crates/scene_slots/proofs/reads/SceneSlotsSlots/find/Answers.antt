use Rattle.std.proofs.Common.{◌∙◌, sym, ap, refl}
use Rattle.flat_shapes.specs.composition.SeenScenes.{seen_scene}
use Rattle.flat_shapes.specs.composition.SeenSources.{seen_source}
use Rattle.scene_slots.specs.SeenSlots.{layout_of}
use Rattle.scene_slots.proofs.QuerySteps as Steps
use Rattle.scene_slots.proofs.reads.SceneSlotsSlots.find.Goals as goal

pub returns-in-Run : goal.returns-in-Run
returns-in-Run c =
    Steps.read_run (layout_of c.args.self.now) c.args.path.now _ c.whole_end.result _ refl (Steps.end_term_is (seen_scene c.args.self.now.scene.now) c.whole_end.result c.whole_end.ensures)
    (sym c.source.ensures ∙ ap seen_source c.in-Run.is)
