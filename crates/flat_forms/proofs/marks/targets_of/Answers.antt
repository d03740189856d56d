use Rattle.std.proofs.Common.{◌∙◌, ap, map}
use Rattle.std.proofs.lemmas.Result.{IfOk-weaker}
use Rattle.keep_rules.specs.Overriding.{overriders}
use Rattle.scene_rules.specs.composition.Scenes.{Occurrence}
use Rattle.flat_forms.proofs.marks.targets_of.Goals as goal

pub returns : goal.returns
returns c =
    IfOk-weaker c.build.result _ _
    (λ t h i.
    h i ∙ ap (λ ms. overriders ms i) c.as_slice.ensures ∙ c.in_ok-marks.ensures i ∙ ap (λ os. overriders (map (λ (o : Occurrence). o.mark) os) i) c.occurrences.ensures)
    c.build.ensures
