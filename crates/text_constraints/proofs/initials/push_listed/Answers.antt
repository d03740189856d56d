use Rattle.std.proofs.Common.{◌≡◌, ◌++◌, Some, length, map, option_map, subst, sym}
use Rattle.program_texts.specs.composition.SeenParts.{seen_occurrence}
use Rattle.dsl_tree.specs.Views.{expr_tree}
use Rattle.expr_nodes.specs.Scope.{It}
use Rattle.expr_nodes.specs.Seen.{seen_part}
use Rattle.text_constraints.specs.Elements.{AreSampled, sample_in}
use Rattle.text_constraints.specs.Kept.{seen_owner}
use Rattle.text_constraints.specs.OwnTexts.{elements_kept}
use Rattle.text_constraints.specs.Sites.{seen_site}
use Rattle.text_constraints.proofs.ElementTexts.{are_sampled}
use Rattle.text_constraints.proofs.ListSteps.{on_ok}
use Rattle.text_constraints.proofs.initials.push_listed.Goals as goal

pub returns : goal.returns
returns c =
    let s = seen_site c.args.text.now in
    let h = seen_owner c.args.owner.now in
    let table = c.args.types.now.table in
    let count = length c.args.values.now in
    on_ok (AreSampled table s.scope count (sample_in (seen_part c.in_ok-list.list)) → map seen_occurrence c.push_elements.new.into.items ≡ map seen_occurrence c.args.into.now.items ++ elements_kept table s h 0 (map expr_tree c.args.values.now))
    (s.scope.it ≡ option_map (λ t. It.Of t (Some count)) c.args.of.now → map seen_occurrence c.push_elements.new.into.items ≡ map seen_occurrence c.args.into.now.items ++ elements_kept table s h 0 (map expr_tree c.args.values.now))
    (λ told it. told (subst (AreSampled table s.scope count) (sym c.in_ok-list.ensures) (are_sampled table s.scope count c.first_place.result c.args.of.now it)))
    c.push_elements.result c.push_elements.ensures
