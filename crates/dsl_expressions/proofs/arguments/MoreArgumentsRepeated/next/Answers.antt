use Rattle.dsl_expressions.proofs.ArgumentRows.{named_grows}
use Rattle.dsl_expressions.proofs.arguments.MoreArgumentsRepeated.next.Goals as goal

pub returns-in_ok-named-in-None : goal.returns-in_ok-named-in-None
returns-in_ok-named-in-None c = let (stop, same) = rw c.in-None.is at c.take.ensures in named_grows _ c.in_ok-expect-in-None.field-0 _ _ _ _ stop same c.in_ok-expect-in-None.ensures c.in_ok-named-in-None.ensures
