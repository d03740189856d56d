use Rattle.std.proofs.Common.{◌≡◌, ◌++◌, map, take}
use Rattle.string_texts.specs.Strings.{joined}
use Rattle.string_texts.specs.PhaseStrings.{rule_strings}
use Rattle.string_texts.proofs.declared.push_rules.Given as goal

abbrev pub invariant-loop-rule : goal.invariant-loop-rule
invariant-loop-rule l = map (λ t. t.now) l.texts.items ≡ map (λ t. t.now) l.fn.texts.items ++ joined (map rule_strings (take l.rule-index l.rules))
