use Rattle.std.proofs.Common.{refl, ap, ◌∙◌}
use Rattle.std.specs.Ordering.{int_cmp}
use Rattle.std.proofs.lemmas.Bool.{false≢true}
use Rattle.osc_base.specs.declared.fraction.Widened.{Widened}
use Rattle.osc_base.proofs.Fractions.{order_of}
use Rattle.osc_base.proofs.fraction.Fraction.compare.Goals as goal

pub returns-in_err-widened-clause-exact : goal.returns-in_err-widened-clause-exact
returns-in_err-widened-clause-exact c =
    let found = c.in_err-widened.ensures in
    rw c.from_residual.ensures (record { over = found.0; exactly = ((λ s. absurd (false≢true s)), λ p. absurd (found.1 p)); parts = tt })

pub returns-clause-exact : goal.returns-clause-exact
returns-clause-exact c =
    let found = c.in_ok-widened.ensures in
    record {
      over = found.0;
      exactly = ((λ _. found.1.0), λ _. refl);
      parts = c.cmp.ensures ∙ ap (λ (w : Widened). int_cmp w.left w.right) found.1.1;
    }

pub returns-clause-value : goal.returns-clause-value
returns-clause-value c =
    let found = c.in_ok-widened.ensures in
    c.cmp.ensures ∙ ap (λ (w : Widened). int_cmp w.left w.right) found.1.1 ∙ order_of c.args.self.now c.args.other.now found.0
