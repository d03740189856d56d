use Rattle.std.proofs.Common.{◌≡◌, IfOk, subst, option_copied}
use Rattle.std.specs.Prelude.{option_to_list}
use Rattle.composition.specs.SeenParts.{seen_occurrence}
use Rattle.composition.specs.SeenScenes.{seen_scene}
use Rattle.scene_conditions.specs.declared.conditions.Conditions.{Conditions}
use Rattle.scene_conditions.specs.SeenConditions.{seen_conditions}
use Rattle.scene_conditions.proofs.Gathering.{presence_steps}
use Rattle.scene_conditions.proofs.there.presence.Goals as goal

pub returns : goal.returns
returns c =
    subst (λ gs. IfOk c.with_path.result (λ (m : Conditions). seen_conditions m ≡ gs))
    (presence_steps (seen_scene c.args.scene.now) (seen_occurrence c.args.occurrence.now) (seen_conditions c.new.result) (seen_conditions c.in_ok-met.met) (seen_conditions c.in_ok-met-2.met)
    (seen_conditions c.in_ok-met-3.met) c.guards.result.now c.as_slice.result.now (option_to_list (option_copied c.removed.result))
    c.new.ensures c.guards.ensures c.in_ok-met.ensures c.as_slice.ensures c.in_ok-met-2.ensures c.in_ok-met-3.ensures c.removed.ensures)
    c.with_path.ensures
