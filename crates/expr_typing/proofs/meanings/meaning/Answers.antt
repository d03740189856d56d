use Rattle.std.proofs.Common.{◌≡◌, ◌∙◌, ap, subst}
use Rattle.std.specs.Prelude.{IfOk}
use Rattle.dsl_tree.specs.osc_base.Paths.{root, then_name}
use Rattle.expr_nodes.specs.SeenNames.{seen_scope}
use Rattle.expr_typing.specs.Meanings.{seen_meaning}
use Rattle.expr_typing.proofs.NameMeanings.{field_found, field_lost}
use Rattle.expr_typing.proofs.meanings.meaning.Goals as goal

pub returns-in_ok-path-in-Some : goal.returns-in_ok-path-in-Some
returns-in_ok-path-in-Some c =
    subst (λ n. IfOk c.field_meant.result (λ m. seen_meaning m ≡ n))
    (field_found c.args.types.now.table (seen_scope c.args.scope.now) c.args.name.now c.in-Some.field c.in_ok-path-in-Some.path (rw c.as_str.ensures at c.in-Some.ensures)
    (c.in_ok-path-in-Some.ensures ∙ ap (then_name root) c.as_str-in-Some.ensures))
    c.field_meant.ensures

pub returns-in-None : goal.returns-in-None
returns-in-None c =
    subst (λ n. IfOk c.by_label.result (λ m. seen_meaning m ≡ n))
    (field_lost c.args.types.now.table (seen_scope c.args.scope.now) c.args.name.now (rw c.as_str.ensures at c.in-None.ensures))
    c.by_label.ensures
