use Rattle.std.proofs.Common.{◌≡◌, ◌++◌, drop, map, pos}
use Rattle.type_members.specs.type_heads.Form.{EnumMember}
use Rattle.type_tables.proofs.numbers.values.Given as goal

abbrev pub invariant-loop-member : goal.invariant-loop-member
invariant-loop-member l = l.values.items ++ map (λ (m : EnumMember). pos m.number) (drop l.member-index l.members) ≡ map (λ (m : EnumMember). pos m.number) l.members
