use Rattle.std.proofs.Common.{◌≡◌, ◌≢◌, List, [], ◌∷◌, sym, subst, Err}
use Rattle.dsl_cursor.specs.Words.{Memory, nil, Part, read}
use Rattle.dsl_headings.specs.Words.{BasePart, unit_end}
use Rattle.dsl_cursor.proofs.Loops.{start, step, finish, raise}
use Rattle.dsl_headings.proofs.units.unit_rest.Invariants.{AlongUnit}
use Rattle.dsl_headings.proofs.units.unit_rest.Goals as goal

pub bases-init : goal.bases-init
bases-init c = subst (λ (v : List BasePart). AlongUnit (c.args.first ∷ []) v c.args.tokens.now c.args.tokens.now) (sym c.in_ok-bases.ensures) (λ end. start _ _ _ _)

pub bases-preserved : goal.bases-preserved
bases-preserved c =
    let (less, reads, fails) = rw c.in-Base.is at c.in_ok-next.ensures in
    λ end. step _ _ _ _ _ _ _ _ _ (c.bases.invariant end) (less, (λ others z. reads others end z), fails) c.in_ok-push-in-Base.ensures.ok

pub returns-in_err-next-clause-err : goal.returns-in_err-next-clause-err
returns-in_err-next-clause-err c =
    raise _ _ (λ e. e ≢ Memory → read Part.UnitTail c.args.tokens.now ≡ Err e) c.from_residual-in_err-next.ensures (λ some. (c.bases.invariant nil).fails _ (c.in_err-next.ensures some))

pub returns-in-End-clause-ok : goal.returns-in-End-clause-ok
returns-in-End-clause-ok c = finish _ _ _ _ _ _ _ (c.bases.invariant (unit_end c.in-End.end.factor c.in-End.end.offset)) (rw c.in-End.is at c.in_ok-next.ensures)
