use Rattle.std.proofs.Common.{length, ◌-◌}
use Rattle.dsl_lexer.specs.Progress.{Reached}
use Rattle.dsl_lexer.proofs.lexer.lex.Given as goal

abbrev pub invariant-loop-layout : goal.invariant-loop-layout
invariant-loop-layout l = Reached l.file l.bytes l.valid l.layout

abbrev pub decreases-loop-layout : goal.decreases-loop-layout
decreases-loop-layout l = length l.bytes - l.layout.spot.at
