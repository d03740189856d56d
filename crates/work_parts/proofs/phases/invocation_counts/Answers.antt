use Rattle.std.proofs.Common.{◌∙◌, ap, map}
use Rattle.dsl_tree.specs.Views.{argument_tree, part_tree}
use Rattle.work_counts.specs.program_texts.SeenTexts.{types_in}
use Rattle.expr_nodes.specs.type_heads.Members.{fields}
use Rattle.work_counts.specs.Amounts.{kept, sum_of}
use Rattle.work_parts.specs.Arguments.{arguments_amount}
use Rattle.work_parts.specs.Parts.{part_amount}
use Rattle.work_parts.proofs.PhaseLaws.{invocation_is}
use Rattle.work_parts.proofs.phases.invocation_counts.Goals as goal

pub returns : goal.returns
returns c = λ steps call bindings.
    c.with_own.ensures
    ∙ invocation_is (types_in c.args.texts.now) steps call c.args.node.now.head c.args.node.now.names (map argument_tree c.args.node.now.arguments) (map part_tree c.args.node.now.parts) c.args.of bindings c.args.last
    c.with.result c.in_ok-given.given c.parts_tally-parts.result c.ticks_to.result c.ticks_to.ensures
    (c.in_ok-given.ensures ∙ ap (λ xs. kept (arguments_amount (types_in c.args.texts.now).table c.args.of (fields (types_in c.args.texts.now) c.args.of) 0 (map argument_tree xs))) c.as_slice.ensures)
    (c.parts_tally-parts.ensures ∙ ap (λ xs. kept (sum_of (part_amount c.ticks_to.result) (map part_tree xs))) c.as_slice-2.ensures)
    c.with.ensures
