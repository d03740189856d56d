use Rattle.std.proofs.Common.{sym, subst, ◌*◌, ◌≤◌}
use Rattle.expr_value.specs.expr_nodes.Sizes.{duration_reach}
use Rattle.run_values.specs.SeenNumbers.{scene_in, run_in}
use Rattle.run_values.proofs.Framed.{span_is}
use Rattle.run_values.proofs.numbers.Numbers.length_of.Goals as goal

pub over_ticks-requires-clause-ordered : goal.over_ticks-requires-clause-ordered
over_ticks-requires-clause-ordered c =
    (span_is (scene_in c.args.self.now) (run_in c.args.self.now) c.args.self.now.within c.args.phase.now c.in-Some.span.now (sym c.in-Some.ensures)).ordered

pub over_ticks-requires-clause-small : goal.over_ticks-requires-clause-small
over_ticks-requires-clause-small c =
    subst (λ t. t * c.in-Some.span.now.end ≤ duration_reach) (sym c.tick.ensures)
    (span_is (scene_in c.args.self.now) (run_in c.args.self.now) c.args.self.now.within c.args.phase.now c.in-Some.span.now (sym c.in-Some.ensures)).small
