use Rattle.std.proofs.Common.{◌≡◌, IfOk, subst}
use Rattle.composition.specs.SeenScenes.{seen_scene}
use Rattle.scene_conditions.specs.declared.conditions.Conditions.{Conditions}
use Rattle.scene_conditions.specs.SeenConditions.{seen_conditions}
use Rattle.scene_conditions.proofs.Gathering.{listed_is, row_joined}
use Rattle.scene_conditions.proofs.reads.+reads.Goals as goal

pub with_reads-returns-in-Listed : goal.with_reads-returns-in-Listed
with_reads-returns-in-Listed t c =
    subst (λ gs. IfOk c.with_items.result (λ (m : Conditions). seen_conditions m ≡ gs))
    (listed_is (seen_scene c.args.scene.now) (seen_conditions c.args.met) c.args.typed.now c.in-Listed.info c.in-Listed.is_field c.in-Listed.items c.as_slice.result.now c.in-Listed.is c.as_slice.ensures)
    c.with_items.ensures

pub with_reads-returns-in_ok-met-in-Joined-2 : goal.with_reads-returns-in_ok-met-in-Joined-2
with_reads-returns-in_ok-met-in-Joined-2 t c =
    subst (λ gs. IfOk c.with_reads-in-Joined-2.result (λ (m : Conditions). seen_conditions m ≡ gs))
    (row_joined (seen_scene c.args.scene.now) (seen_conditions c.args.met) c.args.typed.now c.in-Joined.info c.in-Joined.join c.in-Joined.first c.in-Joined.last c.get-in-Joined.result.now c.get-in-Joined-2.result.now
    c.in-Joined.earlier c.as_slice-in-Joined.result.now (seen_conditions c.in_ok-met-in-Joined.met) (seen_conditions c.in_ok-met-in-Joined-2.met)
    c.in-Joined.is c.get-in-Joined.ensures c.as_slice-in-Joined.ensures c.get-in-Joined-2.ensures c.in_ok-met-in-Joined.ensures c.in_ok-met-in-Joined-2.ensures)
    c.with_reads-in-Joined-2.ensures
