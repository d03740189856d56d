use Rattle.std.proofs.Common.{◌≡◌, ◌++◌, drop, map}
use Rattle.type_members.specs.type_heads.MemberFaults.{names_among}
use Rattle.type_members.specs.Listed.{seen_listed}
use Rattle.member_faults.specs.NamePlaces.{lent_names}
use Rattle.member_faults.proofs.labels.names_among.Given as goal

abbrev pub invariant-loop-listed : goal.invariant-loop-listed
invariant-loop-listed l = names_among (map seen_listed l.members) ≡ lent_names l.names.items ++ names_among (map seen_listed (drop l.listed-index l.members))
