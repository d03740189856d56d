use Rattle.dsl_expressions.proofs.ArgumentRows.{plain_item}
use Rattle.dsl_expressions.proofs.arguments.plain.Goals as goal

pub returns : goal.returns
returns c = plain_item _ _ _ _ c.in_ok-more.more c.requires c.in_ok-value.ensures c.in_ok-more.ensures
