use Rattle.std.proofs.Common.{◌∙◌, ap, map}
use Rattle.dsl_tree.specs.Views.{argument_tree}
use Rattle.work_counts.specs.Amounts.{kept}
use Rattle.work_parts.specs.Arguments.{duration_amount}
use Rattle.work_parts.proofs.PhaseLaws.{composition_is}
use Rattle.work_parts.proofs.phases.composition_counts.Goals as goal

pub returns : goal.returns
returns c = λ ts call count.
    c.with_own.ensures
    ∙ composition_is ts call c.args.node.now.kind (map argument_tree c.args.node.now.arguments) count c.args.last c.composition_slots.result c.duration_tally-own.result c.composition_slots.ensures
    (c.duration_tally-own.ensures ∙ ap (λ xs. kept (duration_amount (map argument_tree xs))) c.as_slice.ensures)
