use Rattle.std.proofs.Common.{◌≡◌, ◌≢◌, Err}
use Rattle.dsl_cursor.specs.Words.{Memory, read}
use Rattle.dsl_cursor.proofs.Loops.{start, step, finish, stop, raise}
use Rattle.dsl_cursor.proofs.rows.with_rest.Goals as goal

pub items-init : goal.items-init
items-init g c = start _ _ _ _

pub items-preserved : goal.items-preserved
items-preserved g c = step _ _ _ _ _ _ _ _ _ c.items.invariant (rw c.in-Some.is at c.in_ok-item.ensures) c.in_ok-push.ensures.ok

pub returns-in_err-item-clause-err : goal.returns-in_err-item-clause-err
returns-in_err-item-clause-err g c =
    raise _ _ (λ e. e ≢ Memory → read g.T.Repeated.tail c.args.tokens.now ≡ Err e) c.from_residual.ensures (stop _ _ _ _ _ _ _ c.items.invariant c.in_err-item.ensures)

pub returns-clause-ok : goal.returns-clause-ok
returns-clause-ok g c = finish _ _ _ _ _ _ _ c.items.invariant (rw c.in_default.is at c.in_ok-item.ensures)
