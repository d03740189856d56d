use Rattle.std.proofs.Common.{◌≡◌, IfOk, subst, ap, option_copied}
use Rattle.std.specs.Prelude.{option_to_list}
use Rattle.composition.specs.SeenParts.{seen_modifier}
use Rattle.composition.specs.SeenScenes.{seen_scene}
use Rattle.scene_conditions.specs.declared.conditions.Conditions.{Conditions}
use Rattle.scene_conditions.specs.SeenConditions.{seen_conditions}
use Rattle.scene_conditions.proofs.Gathering.{modifier_steps}
use Rattle.scene_conditions.proofs.there.modifier_presence.Goals as goal

pub returns : goal.returns
returns c =
    subst (λ gs. IfOk c.with_part-2.result (λ (m : Conditions). seen_conditions m ≡ gs))
    (modifier_steps (seen_scene c.args.scene.now) (seen_modifier c.args.modifier.now) (seen_conditions c.new.result) (seen_conditions c.in_ok-met.met) (seen_conditions c.in_ok-met-2.met)
    (seen_conditions c.in_ok-met-3.met) (seen_conditions c.in_ok-met-4.met) c.guards.result.now c.guards-2.result.now (option_to_list (option_copied c.as_ref.result))
    c.new.ensures c.guards.ensures c.in_ok-met.ensures c.guards-2.ensures c.in_ok-met-2.ensures (ap option_to_list c.as_ref.ensures.value) c.in_ok-met-3.ensures c.in_ok-met-4.ensures)
    c.with_part-2.ensures
