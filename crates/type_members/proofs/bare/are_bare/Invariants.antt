use Rattle.std.proofs.Common.{◌≡◌, ◌<◌, ℕ, false, map, slice_index_or, true}
use Rattle.type_heads.specs.Bodied.{seen_body}
use Rattle.type_members.specs.Cutting.{IsBare}
use Rattle.type_members.proofs.bare.are_bare.Given as goal

abbrev pub invariant-loop-number : goal.invariant-loop-number
invariant-loop-number l = (t : ℕ) → t < l.number → slice_index_or l.flags t false ≡ true → IsBare (map seen_body l.bodies) l.subtypes l.flags t
