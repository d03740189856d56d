use Rattle.std.proofs.Common.{◌≡◌, rules, ◌∙◌, sym, subst}
use Rattle.std.specs.Prelude.{IfOk}
use Rattle.expr_nodes.specs.Seen.{seen, seen_info, joined}
use Rattle.expr_nodes.proofs.SeenNodes.{row_before}
use Rattle.expr_operators.proofs.rows.with_part.Goals as goal

pub returns-in_ok-earlier-in-Joined : goal.returns-in_ok-earlier-in-Joined
returns-in_ok-earlier-in-Joined c =
    subst (λ g. IfOk c.row_of.result (λ t. seen t ≡ joined c.args.join (seen_info c.args.info.now) g (seen c.args.right)))
    (row_before c.args.left c.in-Joined.reached c.in-Joined.other c.args.join c.in-Joined.first c.in-Joined.earlier c.in_ok-earlier-in-Joined.earlier c.in-Joined.last
    (sym c.into_inner.ensures ∙ c.in-Joined.is) (search (rules, c.if-eq.true, c.if-eq.ensures)) c.in_ok-earlier-in-Joined.ensures)
    c.row_of.ensures
