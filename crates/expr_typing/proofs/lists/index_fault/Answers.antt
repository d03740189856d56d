use Rattle.std.proofs.Common.{◌∙◌, ap, ap₂, false}
use Rattle.typed_parts.proofs.Results.{none_as}
use Rattle.std.specs.Prelude.{is_none}
use Rattle.std.specs.Option.{option_map_or}
use Rattle.dsl_tree.specs.osc_base.declared.fault.FaultCode.{FaultCode}
use Rattle.dsl_tree.specs.osc_base.FaultRows.{row, row_fault, first_of}
use Rattle.expr_nodes.specs.Parts.{of_one}
use Rattle.expr_nodes.specs.Operators.{element, index_of}
use Rattle.dsl_tree.specs.Views.{expr_tree}
use Rattle.expr_nodes.specs.Seen.{seen_part}
use Rattle.expr_typing.proofs.lists.index_fault.Goals as goal

pub returns : goal.returns
returns c = c.least.ensures ∙ ap₂ first_of
    (c.fault_if-varying.ensures ∙ ap (λ b. row_fault (row c.args.place FaultCode.NotConstant b)) (none_as c.index_of-number.result (index_of (expr_tree c.args.index.now)) c.is_none.result c.is_none.ensures c.index_of-number.ensures))
    (c.fault_if-lacking.ensures ∙ ap (λ b. row_fault (row c.args.place FaultCode.Index b))
    (c.is_missing.ensures ∙ ap (λ m. option_map_or (λ n. of_one (seen_part c.args.head.now) (λ h. is_none (element n h))) m false) c.index_of-number.ensures))
