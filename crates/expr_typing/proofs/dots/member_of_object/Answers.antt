use Rattle.std.proofs.Common.{◌≡◌, ◌∙◌, ap, subst}
use Rattle.std.specs.Prelude.{IfOk}
use Rattle.dsl_tree.specs.osc_base.Paths.{then_name}
use Rattle.expr_typing.specs.Meanings.{seen_meaning}
use Rattle.expr_typing.proofs.NameMeanings.{member_found}
use Rattle.expr_typing.proofs.dots.member_of_object.Goals as goal

pub returns-in_ok-path-in-Some : goal.returns-in_ok-path-in-Some
returns-in_ok-path-in-Some c =
    subst (λ n. IfOk c.field_meant.result (λ m. seen_meaning m ≡ n))
    (member_found c.args.types.now.table c.args.place c.args.path c.args.of c.args.name.now c.in-Some.field c.in_ok-path-in-Some.path c.in-Some.ensures
    (c.in_ok-path-in-Some.ensures ∙ ap (then_name c.args.path) c.in_ok-copy-in-Some.ensures))
    c.field_meant.ensures
