use Rattle.std.proofs.Common.{◌∙◌, ap, ◌≤◌, subst}
use Rattle.scene_slots.specs.composition.declared.setting.Setting.{Setting}
use Rattle.scene_slots.specs.composition.SeenScenes.{seen_scene}
use Rattle.scene_slots.specs.SeenSlots.{scene_of}
use Rattle.scene_runs.proofs.SlotBounds.{whole_low, whole_high, ended}
use Rattle.scene_runs.proofs.end.end_of.Goals as goal

pub end_in-requires-clause-low : goal.end_in-requires-clause-low
end_in-requires-clause-low c = whole_low (scene_of c.args.slots.now) c.args.point.now c.requires c.whole_end.result c.whole_end.ensures

pub end_in-requires-clause-high : goal.end_in-requires-clause-high
end_in-requires-clause-high c =
    whole_high (scene_of c.args.slots.now) c.args.point.now c.requires c.whole_end.result c.whole_end.ensures c.setting.result.ticks
    (ap (λ (s : Setting). s.ticks) (c.setting.ensures ∙ ap (λ s. (seen_scene s).setting) c.scene.ensures))

pub returns-clause-is : goal.returns-clause-is
returns-clause-is c = c.end_in.ensures.is ∙ ended (scene_of c.args.slots.now) c.args.point.now c.whole_end.result c.whole_end.ensures

pub returns-clause-within : goal.returns-clause-within
returns-clause-within c =
    subst (λ n. c.end_in.result ≤ n) (ap (λ (s : Setting). s.ticks) (c.setting.ensures ∙ ap (λ s. (seen_scene s).setting) c.scene.ensures)) c.end_in.ensures.within
