use Rattle.std.proofs.Common.{◌≡◌, drop, map}
use Rattle.std.specs.List.{list_any}
use Rattle.type_members.specs.Listed.{seen_listed}
use Rattle.member_faults.specs.RowFacts.{is_do}
use Rattle.member_faults.proofs.row_facts.has_do.Given as goal

abbrev pub invariant-loop-listed : goal.invariant-loop-listed
invariant-loop-listed l = list_any is_do (map seen_listed l.members) ≡ list_any is_do (map seen_listed (drop l.listed-index l.members))
