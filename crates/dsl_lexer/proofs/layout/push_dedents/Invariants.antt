use Rattle.std.proofs.Common.{◌≡◌, ◌++◌, ◌+◌, length, replicate}
use Rattle.dsl_tree.specs.declared.token.TokenKind.TheVariants.{Dedent}
use Rattle.dsl_lexer.specs.Steps as steps
use Rattle.dsl_lexer.proofs.layout.push_dedents.Given as goal

abbrev pub invariant-loop-i : goal.invariant-loop-i
invariant-loop-i l = (length l.tokens ≡ length l.initial.tokens + l._i) × (l.tokens ≡ l.initial.tokens ++ steps.stamped l.file l.spot (length l.initial.tokens) (replicate l._i Dedent))
