use Rattle.std.proofs.Common.{◌++◌, ◌∷◌, [], length, map, refl}
use Rattle.program_texts.specs.composition.Givens.{element}
use Rattle.program_texts.specs.composition.SeenParts.{seen_occurrence}
use Rattle.dsl_tree.specs.Views.{expr_tree}
use Rattle.expr_nodes.specs.Seen.{seen_part}
use Rattle.expr_nodes.specs.Typing.{first}
use Rattle.text_constraints.specs.Elements.{sample_in}
use Rattle.text_constraints.specs.Kept.{seen_owner}
use Rattle.text_constraints.specs.OwnTexts.{elements_kept, initial_kept}
use Rattle.text_constraints.specs.Sites.{seen_site}
use Rattle.text_constraints.proofs.ElementTexts.{sampled_at}
use Rattle.text_constraints.proofs.ListSteps.{numbered_more}
use Rattle.text_constraints.proofs.initials.push_elements.Goals as goal

pub loop-place-preserved : goal.loop-place-preserved
loop-place-preserved c = λ known.
    let s = seen_site c.args.text.now in
    let h = seen_owner c.args.owner.now in
    let table = c.args.types.now.table in
    numbered_more (elements_kept table s h) (λ n v. initial_kept table s h (element (first v) n) v ∷ []) expr_tree (λ n v vs. refl) c.args.values.now c.loop-place.place c.index-values-place.result
    (map seen_occurrence c.loop-place.into.items) (map seen_occurrence c.push_element.new.into.items) (map seen_occurrence c.args.into.now.items ++ elements_kept table s h 0 (map expr_tree c.args.values.now))
    c.loop-place-test.true c.index-values-place.is
    (c.in_ok-push_element.ensures (sampled_at table s.scope (length c.args.values.now) c.loop-place.place (sample_in (seen_part c.args.list.now)) known c.loop-place-test.true)) (c.loop-place.invariant known)
