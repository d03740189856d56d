use Rattle.std.proofs.Common.{◌≤◌, ◌<◌, ◌+◌, ◌-◌, ◌≡◌, arith}
use Rattle.vehicle_plans.proofs.Halvings as Halvings
use Rattle.vehicle_plans.proofs.blocks.+push_inner.Goals as goal

pub returns-then-depth-eq0 : goal.returns-then-depth-eq0
returns-then-depth-eq0 t c =
    let none : c.args.depth ≤ 0 = omega (arith, c.if-depth-eq0.true) in
    Halvings.none_left c.args.grid c.args.quantity c.args.depth c.args.a c.args.b c.args.plan.now none

pub returns-then-from : goal.returns-then-from
returns-then-from t c =
    let close : c.args.b ≤ c.args.a + 1 = omega (arith, c.if-from.true, c.from.ensures, c.from-2.ensures) in
    Halvings.narrow c.args.grid c.args.quantity c.args.depth c.args.a c.args.b c.args.plan.now close

pub returns : goal.returns
returns t c =
    let more : c.args.depth - 1 + 1 ≡ c.args.depth = omega (arith, c.if-depth-eq0.false) in
    let wide : c.args.a + 1 < c.args.b = omega (arith, c.if-from.false, c.from.ensures, c.from-2.ensures) in
    Halvings.inner_more c.args.grid c.args.quantity c.args.depth (c.args.depth - 1) c.args.a c.half-middle.result c.args.b _ _ _ _
    more wide c.half-middle.ensures c.in_ok-push_betweens.ensures c.in_ok-push_inner.ensures c.in_ok-push_inner-2.ensures
