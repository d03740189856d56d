use Rattle.std.proofs.Common.{◌≡◌, ◌++◌, map, take}
use Rattle.string_texts.specs.Strings.{joined}
use Rattle.string_texts.specs.PhaseStrings.{argument_strings}
use Rattle.string_texts.proofs.phases.push_arguments.Given as goal

abbrev pub invariant-loop-argument : goal.invariant-loop-argument
invariant-loop-argument l = map (λ t. t.now) l.texts.items ≡ map (λ t. t.now) l.fn.texts.items ++ joined (map argument_strings (take l.argument-index l.arguments))
