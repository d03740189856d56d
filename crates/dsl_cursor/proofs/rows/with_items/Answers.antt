use Rattle.std.proofs.Common.{◌≡◌, ◌≢◌, sym, ◌∙◌, Err}
use Rattle.dsl_cursor.specs.Words.{Memory, read}
use Rattle.dsl_cursor.proofs.{Loops.start, Loops.step, Loops.finish, Loops.stop, Loops.raise, RowSteps.item_grows, RowSteps.item_stops, RowSteps.items_end}
use Rattle.dsl_cursor.proofs.rows.with_items.Goals as goal

pub items-init : goal.items-init
items-init g c = start _ _ _ _

pub items-preserved : goal.items-preserved
items-preserved g c =
    step _ _ _ _ _ _ _ _ _ c.items.invariant (item_grows g.T.Item.part g.T.Item.tail g.T.Item.item g.T.Item.rest g.met.T.Item.law _ _ _ (sym c.begins.ensures ∙ c.items-test.true) c.in_ok-item.ensures) c.in_ok-push.ensures.ok

pub items-smaller : goal.items-smaller
items-smaller g c =
    let (less, reads, fails) = item_grows g.T.Item.part g.T.Item.tail g.T.Item.item g.T.Item.rest g.met.T.Item.law _ _ _ (sym c.begins.ensures ∙ c.items-test.true) c.in_ok-item.ensures in
    less

pub returns-in_err-item-clause-err : goal.returns-in_err-item-clause-err
returns-in_err-item-clause-err g c =
    raise _ _ (λ e. e ≢ Memory → read g.T.Item.tail c.args.tokens.now ≡ Err e) c.from_residual.ensures
    (stop _ _ _ _ _ _ _ c.items.invariant (λ some. item_stops g.T.Item.part g.T.Item.tail g.T.Item.item g.T.Item.rest g.met.T.Item.law _ _ (sym c.begins.ensures ∙ c.items-test.true) (c.in_err-item.ensures some)))

pub returns-clause-ok : goal.returns-clause-ok
returns-clause-ok g c = finish _ _ _ _ _ _ _ c.items.invariant (items_end g.T.Item.part g.T.Item.tail g.T.Item.item g.T.Item.rest g.met.T.Item.law _ (sym c.begins.ensures ∙ c.items-test.false))
