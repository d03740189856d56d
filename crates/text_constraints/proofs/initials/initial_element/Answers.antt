use Rattle.std.proofs.Common.{◌≡◌, ◌∙◌, None, Some, subst, sym}
use Rattle.osc_base.specs.declared.mark.Strength.{Strength}
use Rattle.program_texts.specs.composition.Givens.{element}
use Rattle.program_texts.specs.composition.SeenParts.{seen_occurrence}
use Rattle.dsl_tree.specs.Views.{expr_tree}
use Rattle.expr_nodes.specs.Seen.{seen_part}
use Rattle.expr_nodes.specs.Typing.{first}
use Rattle.text_constraints.specs.Elements.{SampleFor, sample_in, seen_sample}
use Rattle.text_constraints.specs.Kept.{constraint, seen_owner}
use Rattle.text_constraints.specs.OwnTexts.{initial_kept}
use Rattle.text_constraints.specs.Sites.{seen_site}
use Rattle.text_constraints.proofs.EqualSteps.{if_ok, nothing_of}
use Rattle.text_constraints.proofs.initials.initial_element.Goals as goal

pub returns-in-Some : goal.returns-in-Some
returns-in-Some c =
    let s = seen_site c.args.text.now in
    let h = seen_owner c.args.owner.now in
    let table = c.args.types.now.table in
    let value = expr_tree c.args.value.now in
    if_ok (λ o. SampleFor table s.scope c.args.number (Some (seen_sample c.in-Some.sample)) → seen_occurrence o ≡ initial_kept table s h (element (first value) c.args.number) value)
    (λ o. SampleFor table s.scope c.args.number (sample_in (seen_part c.args.list.now)) → seen_occurrence o ≡ initial_kept table s h (element (first value) c.args.number) value)
    (λ o told known. told (subst (SampleFor table s.scope c.args.number) (sym c.in-Some.ensures) known))
    c.sampled_element.result c.sampled_element.ensures

pub returns-in-None : goal.returns-in-None
returns-in-None c =
    let s = seen_site c.args.text.now in
    let h = seen_owner c.args.owner.now in
    let table = c.args.types.now.table in
    let value = expr_tree c.args.value.now in
    if_ok (λ o. seen_occurrence o ≡ constraint h c.first_place.result Strength.Default None None)
    (λ o. SampleFor table s.scope c.args.number (sample_in (seen_part c.args.list.now)) → seen_occurrence o ≡ initial_kept table s h (element (first value) c.args.number) value)
    (λ o is known. is ∙ nothing_of table s h c.args.number value c.first_place.result c.first_place.ensures (subst (SampleFor table s.scope c.args.number) (sym c.in-None.ensures) known))
    c.constraint.result c.constraint.ensures
