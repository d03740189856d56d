use Rattle.std.proofs.Common.{◌≡◌, ℕ, [], ◌++◌, drop, filter, map, slice_index_or}
use Rattle.type_heads.specs.Bodied.{seen_body}
use Rattle.type_heads.specs.Table.{numbers_from}
use Rattle.type_heads.specs.Members.{subtypes}
use Rattle.type_members.specs.Listed.{is_subtype}
use Rattle.type_members.proofs.subtypes.Subtypes.build.Given as goal

abbrev pub invariant-loop-number : goal.invariant-loop-number
invariant-loop-number l = (t : ℕ) → slice_index_or l.rows.items t [] ++ filter (is_subtype l.heads (map seen_body l.bodies) t) (numbers_from l.number (drop l.number l.heads))
    ≡ subtypes l.heads (map seen_body l.bodies) t
