use Rattle.std.proofs.Common.{◌∙◌, ap, sym, map}
use Rattle.keep_rules.specs.Overriding.{overriders}
use Rattle.scene_rules.specs.composition.Scenes.{Occurrence}
use Rattle.scene_rules.specs.composition.SeenParts.{seen_occurrence}
use Rattle.flat_forms.proofs.Defaults.{none_override}
use Rattle.flat_forms.proofs.marks.telling_marks.Goals as goal

pub returns-else-has_default : goal.returns-else-has_default
returns-else-has_default c = λ i.
    ap (λ ms. overriders ms i) c.new.ensures ∙ none_override (map (λ (o : Occurrence). o.mark) (map seen_occurrence c.args.constraints.now)) (sym c.has_default.ensures ∙ c.if-has_default.false) i
