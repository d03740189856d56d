use Rattle.std.proofs.Common.{◌≡◌, drop, map}
use Rattle.type_members.specs.Listed.{seen_listed}
use Rattle.type_tables.specs.Entries.{named_among}
use Rattle.type_tables.proofs.field_types.first_named.Given as goal

abbrev pub invariant-loop-member : goal.invariant-loop-member
invariant-loop-member l = named_among l.name (map seen_listed l.members) ≡ named_among l.name (map seen_listed (drop l.member-index l.members))
