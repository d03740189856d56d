use Rattle.std.proofs.Common.{map, take}
use Rattle.type_members.specs.type_heads.MemberFaults.{names_among}
use Rattle.type_members.specs.Listed.{seen_row}
use Rattle.type_members.specs.Shared.{members_in_parts}
use Rattle.fault_sets.specs.NameRows.{ContinuesNames}
use Rattle.member_faults.proofs.names.with_parts.Given as goal

abbrev pub invariant-loop-part : goal.invariant-loop-part
invariant-loop-part l = ContinuesNames l.fn.first l.fn.met l.found l.met (names_among (members_in_parts (map seen_row l.lists.rows.items) (take l.part-index l.parts)))
