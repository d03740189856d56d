use Rattle.std.proofs.Common.{◌≡◌, ◌++◌, drop, map}
use Rattle.type_members.specs.type_heads.Bounds.{numbers_of}
use Rattle.type_members.specs.type_heads.Table.{TypeHead, enum_members}
use Rattle.type_tables.proofs.numbers.all_numbers.Given as goal

abbrev pub invariant-loop-number : goal.invariant-loop-number
invariant-loop-number l = l.all.items ++ map (λ (h : TypeHead). numbers_of (enum_members h.form)) (drop l.number l.heads) ≡ map (λ (h : TypeHead). numbers_of (enum_members h.form)) l.heads
