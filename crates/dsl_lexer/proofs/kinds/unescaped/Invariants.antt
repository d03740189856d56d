use Rattle.std.proofs.Common.{◌≡◌, ◌++◌, drop, false}
use Rattle.dsl_lexer.specs.Kinds as kinds
use Rattle.dsl_lexer.proofs.kinds.unescaped.Given as goal

abbrev pub invariant-loop-b : goal.invariant-loop-b
invariant-loop-b l = l.read.items ++ kinds.unescaped l.escaped (drop l.b-index l.inside) ≡ kinds.unescaped false l.inside
