use Rattle.std.proofs.Common.{◌∙◌}
use Rattle.work_parts.proofs.Nodes.{value_is}
use Rattle.work_parts.proofs.objects.value_counts.Goals as goal

pub returns : goal.returns
returns c = λ ts path guards. c.with_own.ensures ∙ value_is ts path guards c.args.range.now c.args.last c.range_rules.result c.none.result c.none.ensures c.range_rules.ensures
