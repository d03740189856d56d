use Rattle.std.proofs.Common.{◌≡◌, ◌++◌, map, take}
use Rattle.string_texts.specs.Strings.{joined}
use Rattle.string_texts.specs.PhaseStrings.{argument_strings, phase_strings}
use Rattle.string_texts.proofs.phases.+phase_strings.Given as goal

abbrev pub invariant-push_comp-members : goal.invariant-push_comp-members
invariant-push_comp-members l = map (λ t. t.now) l.texts.items
    ≡ map (λ t. t.now) l.fn.texts.items ++ (joined (map argument_strings l.comp.arguments) ++ joined (map phase_strings (take l.member-index l.comp.members)))
