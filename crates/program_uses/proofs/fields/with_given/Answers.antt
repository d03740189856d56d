use Rattle.std.proofs.Common.{◌≡◌, IfOk, map, subst}
use Rattle.osc_base.specs.FaultRows.{first_from}
use Rattle.dsl_tree.specs.Views.{expr_tree}
use Rattle.expr_nodes.specs.Seen.{seen_kind, seen_size}
use Rattle.expr_nodes.specs.SeenNames.{seen_scope}
use Rattle.program_calls.specs.composition.Uses.{values_rows}
use Rattle.program_uses.proofs.FieldSteps.{items_given, value_given}
use Rattle.program_uses.proofs.fields.with_given.Goals as goal

pub returns-in-Some : goal.returns-in-Some
returns-in-Some c =
    subst (λ xs. IfOk c.with_values.result (λ f. f ≡ first_from c.args.first (values_rows c.args.types.now.table (seen_scope c.args.scope.now) xs (seen_kind c.args.held.now.kind) (seen_size c.args.held.now.size))))
    (items_given c.args.is_list (expr_tree c.args.initial.now) (map expr_tree c.in-Some.items.now) c.in-Some.ensures) c.with_values.ensures

pub returns-in-None : goal.returns-in-None
returns-in-None c =
    subst (λ xs. IfOk c.with_value.result (λ f. f ≡ first_from c.args.first (values_rows c.args.types.now.table (seen_scope c.args.scope.now) xs (seen_kind c.args.held.now.kind) (seen_size c.args.held.now.size))))
    (value_given c.args.is_list (expr_tree c.args.initial.now) c.in-None.ensures) c.with_value.ensures
