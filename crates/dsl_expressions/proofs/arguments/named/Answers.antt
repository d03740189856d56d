use Rattle.dsl_expressions.proofs.ArgumentRows.{named_item}
use Rattle.dsl_expressions.proofs.arguments.named.Goals as goal

pub returns : goal.returns
returns c = named_item c.in_ok-expect_name.field-0 c.in_ok-value.value c.in_ok-expect.field-0 _ _ _ _ c.in_ok-expect_name.ensures c.in_ok-expect.ensures c.in_ok-value.ensures
