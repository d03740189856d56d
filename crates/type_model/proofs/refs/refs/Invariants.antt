use Rattle.std.proofs.Common.{◌≡◌, ◌++◌, drop, map}
use Rattle.type_tables.specs.type_members.Listed.{seen_listed}
use Rattle.type_model.specs.RowRefs.{ref_of}
use Rattle.type_model.proofs.refs.refs.Given as goal

abbrev pub invariant-loop-member : goal.invariant-loop-member
invariant-loop-member l = l.refs.items ++ map ref_of (map seen_listed (drop l.member-index l.members)) ≡ map ref_of (map seen_listed l.members)
