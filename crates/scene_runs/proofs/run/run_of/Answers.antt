use Rattle.std.proofs.Common.{◌∙◌, sym, ap₂, subst}
use Rattle.std.proofs.lemmas.Result.{IfOk-weaker}
use Rattle.box_eval.specs.Box.{IsPointOf}
use Rattle.scene_slots.specs.composition.SeenScenes.{seen_scene}
use Rattle.scene_slots.specs.field_flatten.Ends.{bounds}
use Rattle.scene_slots.specs.field_flatten.Exactness.{IsExpanded}
use Rattle.scene_slots.specs.field_flatten.Points.{run_of as run_by}
use Rattle.scene_runs.proofs.SceneSizes as Sizes
use Rattle.scene_runs.proofs.run.run_of.Goals as goal

pub of-requires-clause-few : goal.of-requires-clause-few
of-requires-clause-few c = Sizes.few_slots (seen_scene c.args.scene.now) c.requires.expanded

pub of-requires-clause-short : goal.of-requires-clause-short
of-requires-clause-short c = Sizes.short_tick (seen_scene c.args.scene.now) c.requires.expanded

pub of-requires-clause-ticks : goal.of-requires-clause-ticks
of-requires-clause-ticks c = Sizes.few_ticks (seen_scene c.args.scene.now) c.requires.expanded

pub run_in-requires-clause-expanded : goal.run_in-requires-clause-expanded
run_in-requires-clause-expanded c = subst (λ s. IsExpanded (seen_scene s)) (sym c.in_ok-slots.ensures) c.requires.expanded

pub run_in-requires-clause-inside : goal.run_in-requires-clause-inside
run_in-requires-clause-inside c =
    subst (λ s. IsPointOf (bounds (seen_scene s)) c.as_slice.result.now) (sym c.in_ok-slots.ensures)
    (subst (λ p. IsPointOf (bounds (seen_scene c.args.scene.now)) p) (sym c.as_slice.ensures) c.requires.inside)

pub returns : goal.returns
returns c =
    IfOk-weaker c.run_in.result _ _
    (λ r h. h ∙ ap₂ (λ s p. run_by (seen_scene s) p) c.in_ok-slots.ensures c.as_slice.ensures)
    c.run_in.ensures
