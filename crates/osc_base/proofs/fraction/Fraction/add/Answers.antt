use Rattle.std.proofs.Common.{SFits, refl, ap, rules}
use Rattle.std.specs.Int.{w128}
use Rattle.std.proofs.lemmas.Int.{to_z-of_z}
use Rattle.std.proofs.lemmas.Bool.{false≢true}
use Rattle.osc_base.specs.declared.fraction.Widened.{Widened}
use Rattle.osc_base.proofs.Fractions.{common_above_z, stored, sum_of}
use Rattle.osc_base.proofs.fraction.Fraction.add.Goals as goal

pub returns-in_err-widened-clause-exact : goal.returns-in_err-widened-clause-exact
returns-in_err-widened-clause-exact c =
    let found = c.in_err-widened.ensures in
    rw c.from_residual.ensures (record { over = found.0; exactly = ((λ s. absurd (false≢true s)), λ p. absurd (found.1 p.0)); parts = tt })

pub returns-in_err-sum-clause-exact : goal.returns-in_err-sum-clause-exact
returns-in_err-sum-clause-exact c =
    let found = c.in_ok-widened.ensures in
    let f1 : SFits w128 c.in_ok-widened.widened.left = search rules in let f2 : SFits w128 c.in_ok-widened.widened.right = search rules in
    let left = ap (λ (w : Widened). w.left) found.1.1 in let right = ap (λ (w : Widened). w.right) found.1.1 in
    let raw = simp to_z-of_z at c.in_err-sum.ensures in let large = simp (left, right) at raw in
    rw c.from_residual-in_err-sum.ensures (record { over = found.0; exactly = ((λ s. absurd (false≢true s)), λ p. absurd (large p.1)); parts = tt })

pub invariant_of-result : goal.invariant_of-result
invariant_of-result c =
    let found = c.in_ok-widened.ensures in
    let common = ap (λ (w : Widened). w.common) found.1.1 in
    record { positive = rw (stored _ _ (found.1.0.0, common)) (common_above_z c.args.self.now c.args.other.now found.0) }

pub returns-clause-exact : goal.returns-clause-exact
returns-clause-exact c =
    let found = c.in_ok-widened.ensures in
    let f1 : SFits w128 c.in_ok-widened.widened.left = search rules in let f2 : SFits w128 c.in_ok-widened.widened.right = search rules in
    let left = ap (λ (w : Widened). w.left) found.1.1 in let right = ap (λ (w : Widened). w.right) found.1.1 in
    let common = ap (λ (w : Widened). w.common) found.1.1 in
    let raw = simp to_z-of_z at c.in_ok-sum.ensures in let sum = simp (left, right) at raw in
    record { over = found.0; exactly = ((λ _. (found.1.0, sum.0)), λ _. refl); parts = (stored _ _ sum, stored _ _ (found.1.0.0, common)) }

pub returns-clause-value : goal.returns-clause-value
returns-clause-value c =
    let found = c.in_ok-widened.ensures in
    let f1 : SFits w128 c.in_ok-widened.widened.left = search rules in let f2 : SFits w128 c.in_ok-widened.widened.right = search rules in
    let left = ap (λ (w : Widened). w.left) found.1.1 in let right = ap (λ (w : Widened). w.right) found.1.1 in
    let common = ap (λ (w : Widened). w.common) found.1.1 in
    let raw = simp to_z-of_z at c.in_ok-sum.ensures in let sum = simp (left, right) at raw in
    sum_of c.args.self.now c.args.other.now found.0 _ _ (stored _ _ sum) (stored _ _ (found.1.0.0, common))
