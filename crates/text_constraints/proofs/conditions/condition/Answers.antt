use Rattle.std.proofs.Common.{◌≡◌}
use Rattle.osc_base.specs.declared.mark.Strength.{Strength}
use Rattle.program_texts.specs.composition.Givens.{value_tree}
use Rattle.program_texts.specs.composition.SeenParts.{seen_occurrence}
use Rattle.dsl_tree.specs.ExprTree.{ExprTree}
use Rattle.expr_nodes.specs.Checks.{IsChecked}
use Rattle.expr_nodes.specs.Typing.{first}
use Rattle.program_texts.specs.program_fields.SeenFields.{seen_field}
use Rattle.expr_nodes.specs.type_heads.Table.{Table}
use Rattle.text_constraints.specs.Kept.{equal_kept, seen_owner}
use Rattle.text_constraints.specs.OwnTexts.{condition_kept}
use Rattle.text_constraints.specs.Sites.{seen_site}
use Rattle.text_constraints.proofs.EqualSteps.{if_ok}
use Rattle.text_constraints.proofs.conditions.condition.Goals as goal

pub returns : goal.returns
returns c =
    let s = seen_site c.args.text.now in
    let h = seen_owner c.args.owner.now in
    let table = c.args.types.now.table in
    if_ok (λ o. (tb : Table) (l v : ExprTree) → c.value_place-begins.result ≡ first v → IsChecked tb s.scope l c.in_ok-left.left → IsChecked tb s.scope v c.in_ok-right.right → seen_occurrence o ≡ equal_kept tb s h c.args.place Strength.Hard l v)
    (λ o. seen_occurrence o ≡ condition_kept table s h c.args.place c.args.condition.now (seen_field c.args.looked_at.now))
    (λ o told. told table (ExprTree.Dot (ExprTree.It c.args.place) c.args.condition.now.field) (value_tree c.args.looked_at.now.decl.now.of c.args.condition.now.value) c.value_place-begins.ensures c.in_ok-left.ensures (c.in_ok-right.ensures s.scope))
    c.equal.result c.equal.ensures
