use Rattle.std.proofs.Common.{◌≡◌, Some}
use Rattle.osc_base.specs.declared.mark.Strength.{Strength}
use Rattle.program_texts.specs.composition.Givens.{element}
use Rattle.program_texts.specs.composition.SeenParts.{seen_occurrence}
use Rattle.dsl_tree.specs.ExprTree.{ExprTree}
use Rattle.dsl_tree.specs.Views.{expr_tree}
use Rattle.expr_nodes.specs.Checks.{IsChecked}
use Rattle.expr_nodes.specs.Typing.{first}
use Rattle.expr_nodes.specs.type_heads.Table.{Table}
use Rattle.text_constraints.specs.Elements.{SampleFor, seen_sample}
use Rattle.text_constraints.specs.Kept.{equal_kept, seen_owner}
use Rattle.text_constraints.specs.OwnTexts.{initial_kept}
use Rattle.text_constraints.specs.Sites.{seen_site}
use Rattle.text_constraints.proofs.EqualSteps.{element_of, if_ok}
use Rattle.text_constraints.proofs.initials.sampled_element.Goals as goal

pub returns : goal.returns
returns c =
    let s = seen_site c.args.text.now in
    let h = seen_owner c.args.owner.now in
    let table = c.args.types.now.table in
    let value = expr_tree c.args.value.now in
    if_ok (λ o. (tb : Table) (l v : ExprTree) → c.first_place-begins.result ≡ first v → IsChecked tb s.scope l c.in_ok-left.left → IsChecked tb s.scope v c.in_ok-right.right → seen_occurrence o ≡ equal_kept tb s h c.first_place-begins.result Strength.Default l v)
    (λ o. SampleFor table s.scope c.args.number (Some (seen_sample c.args.sample)) → seen_occurrence o ≡ initial_kept table s h (element (first value) c.args.number) value)
    (λ o told known. element_of table s h value c.first_place-begins.result c.in_ok-left.left c.in_ok-right.right (seen_occurrence o) told c.args.number (seen_sample c.args.sample) known c.first_place-begins.ensures c.in_ok-left.ensures.fault c.in_ok-left.ensures.typed c.in_ok-right.ensures)
    c.equal.result c.equal.ensures
