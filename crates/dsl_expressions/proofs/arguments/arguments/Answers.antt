use Rattle.std.proofs.Common.{sym, ◌∙◌}
use Rattle.dsl_expressions.proofs.ArgumentRows.{more, last, with_named, labelled}
use Rattle.dsl_expressions.proofs.arguments.arguments.Goals as goal

pub returns-then-not-more-clause-gives : goal.returns-then-not-more-clause-gives
returns-then-not-more-clause-gives c = last _ _ _ _ _ _ c.plain.invariant c.in_ok-push.ensures.ok (rw c.if-not-more.true at c.in_ok-item.ensures)

pub plain-preserved : goal.plain-preserved
plain-preserved c = let (less, reads, fails) = rw c.if-not-more.false at c.in_ok-item.ensures in more _ _ _ _ _ _ c.plain.invariant c.in_ok-push.ensures.ok reads fails

pub returns-clause-gives : goal.returns-clause-gives
returns-clause-gives c =
    let (less, forest, reads, fails) = c.in_ok-named.ensures in
    with_named _ _ _ _ _ _ _ _ c.plain.invariant c.in_ok-push-2.ensures.ok (λ others end h. labelled _ (sym c.begins_label.ensures ∙ c.plain-test.false) ∙ reads others end h) c.in_ok-all.ensures.ok
