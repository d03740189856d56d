use Rattle.std.proofs.Common.{◌∙◌, ap}
use Rattle.std.proofs.lemmas.Result.{IfOk-weaker}
use Rattle.scene_rules.specs.composition.SeenScenes.{seen_scene}
use Rattle.slot_ends.specs.field_flatten.Rules.{rules as all_rules}
use Rattle.flat_forms.proofs.rules.rules_of.Goals as goal

pub returns : goal.returns
returns c = IfOk-weaker c.rules_over.result _ _ (λ r h. h ∙ ap (λ s. all_rules (seen_scene s)) c.in_ok-slots.ensures) c.rules_over.ensures
