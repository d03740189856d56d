use Rattle.std.proofs.Common.{sym, ◌∙◌, ap}
use Rattle.dsl_expressions.proofs.OtherTokens.{no_operand, stopped}
use Rattle.dsl_expressions.proofs.operands.word_leaf.Goals as goal

pub returns-in_default : goal.returns-in_default
returns-in_default c some = no_operand _ _ _ c.split.ensures c.requires.word (rw c.in_default.is at c.word_operand.ensures.none) c.requires.plain ∙ ap stopped (sym c.miss.ensures)
