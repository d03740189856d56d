use Rattle.std.proofs.Common.{◌≡◌, refl, ◌∙◌, sym, ap, ap₂, [], ◌<◌, ◌≤◌, ◌^◌, ℤ, ◌*ℤ◌, FitsSigned, arith, to_z, of_z}
use Rattle.std.proofs.lemmas.Int.{ints}
use Rattle.std.specs.Prelude.{unsigned_abs}
use Rattle.std.specs.Int.{w128}
use Rattle.box_eval.specs.declared.rule.Rule.TheViews.{size-Term}
use Rattle.linear_sums.specs.Linear.{term_weight}
use Rattle.linear_sums.proofs.Products.{product_within}
use Rattle.linear_sums.proofs.TermParts.{of_times, first_weight, second_weight}
use Rattle.linear_sums.proofs.forms.+constant.Goals as goal

pub constant-requires-in-Times : goal.constant-requires-in-Times
constant-requires-in-Times t c =
    let x = c.get-in-Times.result.now in
    let d : size-Term c.args.term.now ≡ t = c.decreases in
    let j = of_times c.args.term.now c.in-Times.a c.in-Times.b x c.in-Times.b c.get-in-Times.ensures refl c.in-Times.is in
    let b : size-Term x < t = omega (arith, d, j.first) in
    (b, omega (arith, c.requires, first_weight [] c.args.term.now x c.in-Times.b j))

pub constant-requires-in-Times-2 : goal.constant-requires-in-Times-2
constant-requires-in-Times-2 t c =
    let x = c.get-in-Times.result.now in
    let y = c.get-in-Times-2.result.now in
    let d : size-Term c.args.term.now ≡ t = c.decreases in
    let j = of_times c.args.term.now c.in-Times.a c.in-Times.b x y c.get-in-Times.ensures c.get-in-Times-2.ensures c.in-Times.is in
    let b : size-Term y < t = omega (arith, d, j.second) in
    (b, omega (arith, c.requires, second_weight [] c.args.term.now x y j))

pub overflow_mul-result : goal.overflow_mul-result
overflow_mul-result t c =
    let x = c.get-in-Times.result.now in
    let y = c.get-in-Times-2.result.now in
    let j = of_times c.args.term.now c.in-Times.a c.in-Times.b x y c.get-in-Times.ensures c.get-in-Times-2.ensures c.in-Times.is in
    let p : to_z w128 (of_z w128 c.constant-in-Times.result) ≡ c.constant-in-Times.result = omega (arith, ints) in
    let q : to_z w128 (of_z w128 c.constant-in-Times-2.result) ≡ c.constant-in-Times-2.result = omega (arith, ints) in
    let s = product_within c.constant-in-Times.result c.constant-in-Times-2.result _ _ c.constant-in-Times.ensures.small c.constant-in-Times-2.ensures.small in
    let r : unsigned_abs (c.constant-in-Times.result *ℤ c.constant-in-Times-2.result) ≤ 2 ^ 120 = omega (arith, s, j.weight [], c.requires) in
    let f : FitsSigned w128 (c.constant-in-Times.result *ℤ c.constant-in-Times-2.result) = omega (arith, ints, r) in
    rw (p, q) f

pub returns-in-Times-clause-value : goal.returns-in-Times-clause-value
returns-in-Times-clause-value t c =
    let x = c.get-in-Times.result.now in
    let y = c.get-in-Times-2.result.now in
    let j = of_times c.args.term.now c.in-Times.a c.in-Times.b x y c.get-in-Times.ensures c.get-in-Times-2.ensures c.in-Times.is in
    let p : to_z w128 (of_z w128 c.constant-in-Times.result) ≡ c.constant-in-Times.result = omega (arith, ints) in
    let q : to_z w128 (of_z w128 c.constant-in-Times-2.result) ≡ c.constant-in-Times-2.result = omega (arith, ints) in
    let s = product_within c.constant-in-Times.result c.constant-in-Times-2.result _ _ c.constant-in-Times.ensures.small c.constant-in-Times-2.ensures.small in
    let r : unsigned_abs (c.constant-in-Times.result *ℤ c.constant-in-Times-2.result) ≤ 2 ^ 120 = omega (arith, s, j.weight [], c.requires) in
    let w : to_z w128 (of_z w128 (c.constant-in-Times.result *ℤ c.constant-in-Times-2.result)) ≡ c.constant-in-Times.result *ℤ c.constant-in-Times-2.result = omega (arith, ints, r) in
    ap₂ (λ (m n : ℤ). to_z w128 (of_z w128 (m *ℤ n))) p q ∙ w
    ∙ ap₂ (λ (m n : ℤ). m *ℤ n) c.constant-in-Times.ensures.value c.constant-in-Times-2.ensures.value ∙ sym (ap (λ f. f.constant) j.form)

pub returns-in-Times-clause-small : goal.returns-in-Times-clause-small
returns-in-Times-clause-small t c =
    let x = c.get-in-Times.result.now in
    let y = c.get-in-Times-2.result.now in
    let j = of_times c.args.term.now c.in-Times.a c.in-Times.b x y c.get-in-Times.ensures c.get-in-Times-2.ensures c.in-Times.is in
    let p : to_z w128 (of_z w128 c.constant-in-Times.result) ≡ c.constant-in-Times.result = omega (arith, ints) in
    let q : to_z w128 (of_z w128 c.constant-in-Times-2.result) ≡ c.constant-in-Times-2.result = omega (arith, ints) in
    let s = product_within c.constant-in-Times.result c.constant-in-Times-2.result _ _ c.constant-in-Times.ensures.small c.constant-in-Times-2.ensures.small in
    let r : unsigned_abs (c.constant-in-Times.result *ℤ c.constant-in-Times-2.result) ≤ term_weight [] c.args.term.now = omega (arith, s, j.weight []) in
    let w : to_z w128 (of_z w128 (c.constant-in-Times.result *ℤ c.constant-in-Times-2.result)) ≡ c.constant-in-Times.result *ℤ c.constant-in-Times-2.result = omega (arith, ints, r, c.requires) in
    omega (arith, r, ap unsigned_abs (ap₂ (λ (m n : ℤ). to_z w128 (of_z w128 (m *ℤ n))) p q ∙ w))
