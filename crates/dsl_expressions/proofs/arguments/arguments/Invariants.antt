use Rattle.std.proofs.Common.{length}
use Rattle.dsl_expressions.proofs.ArgumentRows.{Plain}
use Rattle.dsl_expressions.proofs.arguments.arguments.Given as goal

abbrev pub invariant-plain : goal.invariant-plain
invariant-plain l = Plain l.fn.tokens l.items l.tokens

abbrev pub decreases-plain : goal.decreases-plain
decreases-plain l = length l.tokens
