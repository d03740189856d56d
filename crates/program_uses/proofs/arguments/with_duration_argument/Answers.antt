use Rattle.std.proofs.Common.{◌≡◌}
use Rattle.osc_base.specs.FaultRows.{first_from}
use Rattle.dsl_tree.specs.Views.{argument_tree}
use Rattle.expr_nodes.specs.Fits.{duration_fit_rows}
use Rattle.expr_nodes.specs.SeenNames.{seen_scope}
use Rattle.expr_nodes.specs.Typing.{first, typed}
use Rattle.program_calls.specs.composition.Calls.{Assigned}
use Rattle.program_uses.specs.ArgumentRows.{Continues}
use Rattle.program_uses.proofs.ArgumentSteps.{duration}
use Rattle.program_uses.proofs.RowSteps.{if_ok}
use Rattle.program_uses.proofs.arguments.with_duration_argument.Goals as goal

pub returns : goal.returns
returns c =
    let table = c.args.types.now.table in
    let sc = seen_scope c.args.scope.now in
    let a = argument_tree c.args.argument.now in
    if_ok (λ f. f ≡ first_from c.with_fault-own.result (duration_fit_rows (first a.value) (typed table sc a.value)))
    (λ f. Continues table sc c.args.first c.args.met.now f c.meet.new.self a Assigned.Duration)
    (λ f rest. duration table sc c.args.first c.args.met.now a c.meet.new.self c.argument_place-place.result c.in_ok-is_met.is_met c.with_fault-own.result f
    c.argument_place-place.ensures c.in_ok-is_met.ensures.before c.in_ok-is_met.ensures.more c.with_fault-own.ensures rest)
    c.with_stated_duration.result c.with_stated_duration.ensures
