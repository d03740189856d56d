use Rattle.std.proofs.Common.{◌≡◌, ◌++◌, map, take}
use Rattle.string_texts.specs.Strings.{joined}
use Rattle.string_texts.specs.PhaseStrings.{part_strings}
use Rattle.string_texts.proofs.phases.push_invoke_parts.Given as goal

abbrev pub invariant-loop-part : goal.invariant-loop-part
invariant-loop-part l = map (λ t. t.now) l.texts.items ≡ map (λ t. t.now) l.fn.texts.items ++ joined (map part_strings (take l.part-index l.parts))
