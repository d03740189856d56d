use Rattle.std.proofs.Common.{◌≡◌, drop, map}
use Rattle.type_members.specs.Listed.{seen_listed}
use Rattle.type_members.specs.Shared.{under_inside}
use Rattle.member_faults.specs.ListedRows.{field_found}
use Rattle.member_faults.proofs.fields.field_among.Given as goal

abbrev pub invariant-loop-listed : goal.invariant-loop-listed
invariant-loop-listed l = field_found l.name (map (under_inside l.inside) (map seen_listed l.members)) ≡ field_found l.name (map (under_inside l.inside) (map seen_listed (drop l.listed-index l.members)))
