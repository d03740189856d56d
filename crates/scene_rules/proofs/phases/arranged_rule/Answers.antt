use Rattle.std.proofs.Common.{◌∙◌, ap, ap₂, map, List}
use Rattle.std.proofs.lemmas.Result.{IfOk-weaker}
use Rattle.box_eval.specs.FlatRules.{FlatRule, flat_rule, all_of, under}
use Rattle.rule_parts.specs.composition.Scenes.{guards}
use Rattle.rule_parts.specs.composition.SeenScenes.{seen_scene}
use Rattle.rule_parts.specs.field_flatten.Rules.{presence_rules}
use Rattle.rule_parts.specs.scene_slots.SeenSlots.{layout_of}
use Rattle.scene_rules.proofs.phases.arranged_rule.Goals as goal

pub returns : goal.returns
returns c =
    IfOk-weaker c.all.result _ _
    (λ r h. h ∙ ap all_of (
    c.in_ok-each_under.ensures
    ∙ ap₂ (λ (cs ps : List FlatRule). map (under cs) ps) (
    ap (map flat_rule) c.as_slice.ensures.value ∙ c.in_ok-conditions.ensures
    ∙ ap (presence_rules (layout_of c.args.slots.now)) (c.guards.ensures ∙ ap (λ s. guards (seen_scene s) c.args.phase.now.path) c.scene.ensures)
    ) c.in_ok-parts.ensures
    ))
    c.all.ensures
