-- The types of the fields that members declare.
use Rattle.std.specs.Prelude.{ℕ, List, flat_map}
use Rattle.type_members.specs.type_heads.Table.{TypeHead}
use Rattle.type_members.specs.type_heads.Types.{Written}
use Rattle.type_members.specs.type_heads.HeadingFaults.{field_types}

-- the types of the fields among members
abbrev pub fields_of : List TypeHead → List Written → List ℕ
fields_of heads ws = flat_map (λ (w : Written). field_types heads w w.member) ws
