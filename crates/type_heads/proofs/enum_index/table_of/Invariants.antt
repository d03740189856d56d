use Rattle.std.proofs.Common.{◌≡◌, ℕ, List, take}
use Rattle.type_heads.specs.EnumNames.{AreNumbers, hit_counted, hit_in}
use Rattle.type_heads.proofs.enum_index.table_of.Given as goal

abbrev pub invariant-loop-member : goal.invariant-loop-member
invariant-loop-member l = record {
  numbers : AreNumbers l.table (take l.member-index l.members);
  hits : (name : List ℕ) → hit_in l.hits name ≡ hit_counted (take l.member-index l.members) (hit_in l.fn.hits name) l.of name;
}
