use Rattle.std.proofs.Common.{◌≡◌}
use Rattle.osc_base.specs.FaultRows.{first_from}
use Rattle.dsl_tree.specs.Views.{expr_tree}
use Rattle.expr_nodes.specs.Fits.{constraint_rows}
use Rattle.expr_nodes.specs.SeenNames.{seen_scope}
use Rattle.expr_nodes.specs.Typing.{expr_rows, first, typed}
use Rattle.program_calls.specs.composition.Uses.{default_rows}
use Rattle.program_uses.specs.RuleRows.{keep_rows}
use Rattle.program_uses.proofs.RowSteps.{fitted_from, if_ok, three}
use Rattle.program_uses.proofs.rules.with_keep.Goals as goal

pub returns : goal.returns
returns c =
    let table = c.args.types.now.table in
    let sc = seen_scope c.args.scope.now in
    let e = expr_tree c.args.expr.now in
    if_ok (λ f. f ≡ first_from c.with_constraint-fitted.result (default_rows table sc c.args.kind e)) (λ f. f ≡ first_from c.args.first (keep_rows table sc c.args.kind e))
    (λ f is. three (expr_rows table sc e) (constraint_rows (first e) (typed table sc e)) (default_rows table sc c.args.kind e)
    c.args.first c.with_known-own.result c.with_constraint-fitted.result f
    (c.with_known-own.ensures table sc e c.in_ok-known.ensures)
    (fitted_from constraint_rows c.with_known-own.result c.with_constraint-fitted.result c.first_place.result c.in_ok-known.known table sc e
    c.with_constraint-fitted.ensures c.first_place.ensures c.in_ok-known.ensures) is)
    c.with_default.result c.with_default.ensures
