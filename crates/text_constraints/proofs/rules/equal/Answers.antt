use Rattle.std.proofs.Common.{◌≡◌, ◌∙◌}
use Rattle.program_texts.specs.composition.SeenParts.{seen_occurrence}
use Rattle.dsl_tree.specs.ExprTree.{ExprTree}
use Rattle.expr_nodes.specs.Checks.{IsChecked}
use Rattle.expr_nodes.specs.Seen.{seen_part}
use Rattle.expr_nodes.specs.Typing.{first}
use Rattle.expr_nodes.specs.type_heads.Table.{Table}
use Rattle.text_constraints.specs.Kept.{constraint, equal_kept, seen_owner}
use Rattle.text_constraints.specs.Sites.{seen_site}
use Rattle.text_constraints.proofs.EqualSteps.{equal_of, if_ok}
use Rattle.text_constraints.proofs.rules.equal.Goals as goal

pub returns : goal.returns
returns c =
    let s = seen_site c.args.text.now in
    let h = seen_owner c.args.owner.now in
    if_ok (λ o. seen_occurrence o ≡ constraint h c.args.place c.args.strength c.in_ok-target.target (seen_part c.in_ok-typed.typed))
    (λ o. (table : Table) (l v : ExprTree) → c.args.begins ≡ first v → IsChecked table s.scope l c.args.left → IsChecked table s.scope v c.args.right → seen_occurrence o ≡ equal_kept table s h c.args.place c.args.strength l v)
    (λ o is table l v at one other. is ∙ equal_of table s h c.args.place c.args.begins c.args.strength l v (seen_part c.args.left.typed) c.in_ok-target.target (seen_part c.in_ok-typed.typed) at one.1 c.in_ok-target.ensures (c.in_ok-typed.ensures table l v at one other))
    c.constraint.result c.constraint.ensures
