use Rattle.std.proofs.Common.{◌≡◌, drop, map}
use Rattle.type_members.specs.Listed.{seen_listed}
use Rattle.type_tables.specs.Looked.{have_types}
use Rattle.type_tables.proofs.field_types.have_types.Given as goal

abbrev pub invariant-loop-member : goal.invariant-loop-member
invariant-loop-member l = have_types l.heads (map seen_listed l.members) ≡ have_types l.heads (map seen_listed (drop l.member-index l.members))
