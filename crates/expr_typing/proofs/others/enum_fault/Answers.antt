use Rattle.std.proofs.Common.{◌∙◌, ap, ap₂, false}
use Rattle.typed_parts.proofs.Results.{none_as}
use Rattle.std.specs.Prelude.{is_none}
use Rattle.std.specs.Option.{option_map_or}
use Rattle.dsl_tree.specs.osc_base.declared.fault.FaultCode.{FaultCode}
use Rattle.dsl_tree.specs.osc_base.FaultRows.{row, row_fault, first_of}
use Rattle.expr_nodes.specs.type_heads.Table.{enum_number}
use Rattle.expr_nodes.specs.Names.{enum_named}
use Rattle.expr_typing.proofs.others.enum_fault.Goals as goal

pub returns : goal.returns
returns c = c.least.ensures ∙ ap₂ first_of
    (c.fault_if-unknown.ensures ∙ ap (λ b. row_fault (row c.args.of.now.place FaultCode.Unknown b)) (none_as c.enum_named-found.result (enum_named c.args.types.now.table c.args.of.now) c.is_none.result c.is_none.ensures c.enum_named-found.ensures))
    (c.fault_if-lacking.ensures ∙ ap (λ b. row_fault (row c.args.member.now.place FaultCode.Unknown b))
    (c.lacks.ensures ∙ ap (λ m. option_map_or (λ e. is_none (enum_number c.args.types.now.table.heads e c.args.member.now.text)) m false) c.enum_named-found.ensures))
