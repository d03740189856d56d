use Rattle.std.proofs.Common.{◌≡◌, ◌∙◌, ◌++◌, ◌∷◌, [], None, Some, ap, cond, length, map, option_map}
use Rattle.std.proofs.lemmas.List.{map-append}
use Rattle.program_texts.specs.composition.SeenParts.{seen_occurrence}
use Rattle.dsl_tree.specs.Views.{expr_tree}
use Rattle.expr_nodes.specs.Scope.{It}
use Rattle.expr_nodes.specs.type_heads.Members.{items_in}
use Rattle.text_constraints.specs.Kept.{seen_owner}
use Rattle.text_constraints.specs.OwnTexts.{elements_kept, initials_kept}
use Rattle.text_constraints.specs.Sites.{seen_site}
use Rattle.text_constraints.proofs.InitialForms.{counted_own, listed, whole}
use Rattle.text_constraints.proofs.ListSteps.{on_ok}
use Rattle.text_constraints.proofs.initials.push_initial.Goals as goal

pub returns-in-Some : goal.returns-in-Some
returns-in-Some c =
    let s = seen_site c.args.text.now in
    let h = seen_owner c.args.owner.now in
    let table = c.args.types.now.table in
    let value = expr_tree c.args.value.now in
    let items = c.in-Some.items.now in
    on_ok (s.scope.it ≡ option_map (λ t. It.Of t (Some (length items))) c.args.of.now → map seen_occurrence c.push_listed.new.into.items ≡ map seen_occurrence c.args.into.now.items ++ elements_kept table s h 0 (map expr_tree items))
    (s.scope.it ≡ option_map (λ t. It.Of t (cond c.args.is_list (Some (items_in (Some value))) None)) c.args.of.now → map seen_occurrence c.push_listed.new.into.items ≡ map seen_occurrence c.args.into.now.items ++ initials_kept table s h c.args.is_list value)
    (λ told it. told (it ∙ ap (λ n. option_map (λ t. It.Of t n) c.args.of.now) (counted_own c.args.is_list value items c.in-Some.ensures))
    ∙ ap (λ os. map seen_occurrence c.args.into.now.items ++ os) (listed table s h c.args.is_list value (map expr_tree items) c.in-Some.ensures))
    c.push_listed.result c.push_listed.ensures

pub returns-in_ok-push-in-None : goal.returns-in_ok-push-in-None
returns-in_ok-push-in-None c = λ it.
    let s = seen_site c.args.text.now in
    let h = seen_owner c.args.owner.now in
    let table = c.args.types.now.table in
    let value = expr_tree c.args.value.now in
    ap (map seen_occurrence) c.in_ok-push-in-None.ensures.items ∙ map-append seen_occurrence c.args.into.now.items (c.in_ok-initial-in-None.field-0 ∷ [])
    ∙ ap (λ os. map seen_occurrence c.args.into.now.items ++ os) (ap (λ o. o ∷ []) c.in_ok-initial-in-None.ensures ∙ whole table s h c.args.is_list value c.in-None.ensures)
