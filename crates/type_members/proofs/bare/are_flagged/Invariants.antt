use Rattle.std.proofs.Common.{◌≡◌, drop, false, slice_index_or}
use Rattle.std.specs.List.{list_all}
use Rattle.type_members.proofs.bare.are_flagged.Given as goal

abbrev pub invariant-loop-of : goal.invariant-loop-of
invariant-loop-of l = list_all (λ c. slice_index_or l.flags c false) (drop l.of-index l.types) ≡ list_all (λ c. slice_index_or l.flags c false) l.types
