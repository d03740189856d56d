use Rattle.std.proofs.Common.{◌≡◌, take}
use Rattle.dsl_lexer.specs.Values.{value_from}
use Rattle.dsl_lexer.proofs.kinds.value.Given as goal

abbrev pub invariant-loop-b : goal.invariant-loop-b
invariant-loop-b l = l.n ≡ value_from l.base l.start (take l.b-index l.digits)
