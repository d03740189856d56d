use Rattle.std.proofs.Common.{subst, sym}
use Rattle.program_texts.specs.composition.Givens.{value_tree}
use Rattle.dsl_tree.specs.ExprTree.{ExprTree}
use Rattle.expr_nodes.specs.Checks.{IsChecked}
use Rattle.expr_nodes.specs.Scope.{Scope}
use Rattle.text_constraints.proofs.EqualSteps.{if_ok}
use Rattle.text_constraints.proofs.conditions.value_checked.Goals as goal

pub returns-in-Truth : goal.returns-in-Truth
returns-in-Truth c =
    let table = c.args.types.now.table in
    if_ok (λ k. (sc : Scope) → IsChecked table sc (ExprTree.Truth c.in-Truth.place c.in-Truth.value) k)
    (λ k. (sc : Scope) → IsChecked table sc (value_tree c.args.of.now c.args.value.now) k)
    (λ k told sc. subst (λ v. IsChecked table sc (value_tree c.args.of.now v) k) (sym c.in-Truth.is) (told sc))
    c.truth.result c.truth.ensures
