use Rattle.std.proofs.Common.{◌∙◌, ◌++◌, ◌∷◌, [], ap, map}
use Rattle.std.specs.List.{range_with_len}
use Rattle.scene_expansion.specs.expansion_laws.Works.{Value}
use Rattle.scene_expansion.specs.SeenWorks.{seen_work}
use Rattle.object_works.proofs.ElementSteps.{element_at, element_more}
use Rattle.object_works.proofs.fields.push_elements.Goals as goal

pub loop-number-preserved : goal.loop-number-preserved
loop-number-preserved c =
    element_more (element_at c.args.path.now c.args.guards.now c.args.range.now) c.loop-number.number c.args.length (map seen_work c.loop-number.into.items) (map seen_work c.push_value.new.into.items)
    (map seen_work c.args.into.now.items ++ map (element_at c.args.path.now c.args.guards.now c.args.range.now) (range_with_len 0 c.args.length)) c.loop-number-test.true
    (c.in_ok-push_value.ensures ∙ ap (λ p. map seen_work c.loop-number.into.items ++ Value p c.args.guards.now c.args.range.now ∷ []) c.in_ok-element.ensures) c.loop-number.invariant
