use Rattle.std.proofs.Common.{◌∙◌, ◌++◌, ap₂, map}
use Rattle.program_texts.specs.composition.SeenParts.{seen_occurrence}
use Rattle.dsl_tree.specs.Views.{rule_tree}
use Rattle.text_constraints.specs.Kept.{rule_kept, seen_owner}
use Rattle.text_constraints.specs.Sites.{seen_site}
use Rattle.text_constraints.proofs.ListSteps.{on_ok, put_two}
use Rattle.text_constraints.proofs.members.push_texts.Goals as goal

pub returns : goal.returns
returns c =
    let s = seen_site c.args.text.now in
    let h = seen_owner c.args.owner.now in
    let mid = map seen_occurrence c.push_declared.new.into.items in
    on_ok _ _ (λ told it. put_two _ _ _ _ _ (put_two _ _ _ _ _ c.in_ok-push_declared.ensures
    (c.in_ok-push_rules.ensures ∙ ap₂ (λ table rs. mid ++ map (rule_kept table s h) (map rule_tree rs)) c.types.ensures c.as_slice.ensures)) (told it))
    c.push_value.result c.push_value.ensures
