use Rattle.std.proofs.Common.{◌∙◌, ap}
use Rattle.typed_parts.proofs.Results.{none_as}
use Rattle.dsl_tree.specs.osc_base.declared.fault.FaultCode.{FaultCode}
use Rattle.dsl_tree.specs.osc_base.FaultRows.{row, row_fault}
use Rattle.expr_nodes.specs.type_heads.Shown.{shown_unit}
use Rattle.expr_nodes.specs.SeenNames.{count_of}
use Rattle.expr_typing.proofs.LiteralUnits.{unit_faults, unit_typed, lost_faults, lost_typed}
use Rattle.expr_typing.proofs.physical.physical.Goals as goal

pub returns-in_ok-typed-in-Some-clause-fault : goal.returns-in_ok-typed-in-Some-clause-fault
returns-in_ok-typed-in-Some-clause-fault c =
    c.fault_if-fault.ensures
    ∙ ap (λ b. row_fault (row c.args.digits.now.place FaultCode.TooLarge b)) (none_as c.count_in.result (count_of c.args.digits.now (shown_unit c.in-Some.unit)) c.is_none-too_large.result c.is_none-too_large.ensures c.count_in.ensures)
    ∙ unit_faults c.args.types.now.table c.args.digits.now c.args.name.now (shown_unit c.in-Some.unit) c.in-Some.ensures

pub returns-in_ok-typed-in-Some-clause-typed : goal.returns-in_ok-typed-in-Some-clause-typed
returns-in_ok-typed-in-Some-clause-typed c = c.in_ok-typed-in-Some.ensures ∙ unit_typed c.args.types.now.table c.args.digits.now c.args.name.now (shown_unit c.in-Some.unit) c.in-Some.ensures

pub returns-in-None-clause-fault : goal.returns-in-None-clause-fault
returns-in-None-clause-fault c = c.fault_if.ensures ∙ lost_faults c.args.types.now.table c.args.digits.now c.args.name.now c.in-None.ensures

pub returns-in-None-clause-typed : goal.returns-in-None-clause-typed
returns-in-None-clause-typed c = lost_typed c.args.types.now.table c.args.digits.now c.args.name.now c.in-None.ensures
