use Rattle.std.proofs.Common.{◌∙◌, ◌++◌, ap, map, None, refl}
use Rattle.program_texts.specs.composition.SeenParts.{seen_occurrence}
use Rattle.program_texts.specs.composition.SeenScenes.{seen_scene}
use Rattle.program_texts.specs.composition.Givens.{guards_under}
use Rattle.dsl_tree.specs.Views.{rule_tree}
use Rattle.expr_nodes.specs.SeenNames.{seen_scope}
use Rattle.program_texts.specs.SeenTexts.{types_in}
use Rattle.program_texts.specs.type_members.Listed.{seen_listed}
use Rattle.program_texts.specs.type_members.Shared.{under_inside}
use Rattle.text_constraints.proofs.ListSteps.{on_ok}
use Rattle.text_constraints.proofs.ScopeSteps.{rule_here}
use Rattle.text_constraints.proofs.members.push_member_rule.Goals as goal

pub returns : goal.returns
returns c =
    let ts = types_in c.args.texts.now in
    let bindings = (seen_scene c.args.standing.now.scene.now).bindings in
    let object = c.args.standing.now.object.now in
    let t = c.args.standing.now.of in
    let m = under_inside c.args.inside (seen_listed c.args.listed.now) in
    let old = map seen_occurrence c.args.into.now.items in
    let before = seen_scope c.args.scope.now in
    on_ok _ _ (λ told is. told ∙ ap (λ os. old ++ os)
    (rule_here ts bindings object t m before (record before { it = None }) c.as_slice.result.now (rule_tree c.args.rule.now) is refl
    (c.as_slice.ensures ∙ c.in_ok-under.ensures ∙ ap (guards_under ts object t) c.under_inside.ensures)))
    c.push_own_rule.result c.push_own_rule.ensures
