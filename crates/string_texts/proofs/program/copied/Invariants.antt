use Rattle.std.proofs.Common.{◌≡◌, ◌++◌, map}
use Rattle.string_texts.specs.Ordered.{shown}
use Rattle.string_texts.proofs.program.copied.Given as goal

abbrev pub invariant-loop-text : goal.invariant-loop-text
invariant-loop-text l = l.texts.items ++ map (λ t. t.now) l.text-iterator ≡ shown l.set
