use Rattle.std.proofs.Common.{◌≡◌, map, drop}
use Rattle.dsl_lexer.specs.Shapes as shapes
use Rattle.dsl_lexer.proofs.words.entry.Given as goal

abbrev pub invariant-loop-word : goal.invariant-loop-word
invariant-loop-word l = shapes.entry l.text (map (λ e. (e.0.now, e.1)) (drop l.word-index l.words)) ≡ shapes.entry l.text (map (λ e. (e.0.now, e.1)) l.words)
