use Rattle.std.proofs.Common.{arith, sym, ◌∙◌}
use Rattle.dsl_lexer.proofs.Numbers.{small_hexadecimal}
use Rattle.dsl_lexer.proofs.kinds.hexadecimal_kind.Goals as goal

pub value-requires : goal.value-requires
value-requires c = small_hexadecimal c.args.digits.now (sym c.are_hexadecimal_digits.ensures ∙ c.if-not-are_hexadecimal_digits.false) (omega arith)
