use Rattle.std.proofs.Common.{◌≡◌, ◌++◌, map, take}
use Rattle.string_texts.specs.Strings.{joined}
use Rattle.string_texts.specs.DeclaredStrings.{member_strings}
use Rattle.string_texts.proofs.declared.push_members.Given as goal

abbrev pub invariant-loop-member : goal.invariant-loop-member
invariant-loop-member l = map (λ t. t.now) l.texts.items ≡ map (λ t. t.now) l.fn.texts.items ++ joined (map member_strings (take l.member-index l.members))
