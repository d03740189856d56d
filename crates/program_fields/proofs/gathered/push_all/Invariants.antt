use Rattle.std.proofs.Common.{◌≡◌, ◌++◌, drop, map}
use Rattle.type_heads.specs.Members.{fields_among}
use Rattle.type_members.specs.Listed.{seen_listed}
use Rattle.type_members.specs.Shared.{under_inside}
use Rattle.program_fields.specs.SeenFields.{seen_field}
use Rattle.program_fields.proofs.gathered.push_all.Given as goal

abbrev pub invariant-loop-listed : goal.invariant-loop-listed
invariant-loop-listed l =
    map seen_field l.into.items ++ fields_among (map (under_inside l.inside) (map seen_listed (drop l.listed-index l.members))) ≡ map seen_field l.fn.into.items ++ fields_among (map (under_inside l.inside) (map seen_listed l.members))
