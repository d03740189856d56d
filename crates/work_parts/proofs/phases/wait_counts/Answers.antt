use Rattle.std.proofs.Common.{◌∙◌}
use Rattle.dsl_tree.specs.Views.{expr_tree}
use Rattle.work_parts.proofs.PhaseLaws.{wait_is}
use Rattle.work_parts.proofs.phases.wait_counts.Goals as goal

pub returns : goal.returns
returns c = λ ts call. c.with_own.ensures ∙ wait_is ts call (expr_tree c.args.node.now.elapsed) c.args.last c.value_tally.result c.value_tally.ensures
