use Rattle.std.proofs.Common.{◌≡◌, ◌++◌, drop, map}
use Rattle.type_heads.specs.Bodied.{seen_written}
use Rattle.type_members.specs.Listed.{seen_listed}
use Rattle.type_members.specs.Listing.{member_in}
use Rattle.type_members.proofs.listing.push_members.Given as goal

abbrev pub invariant-loop-written : goal.invariant-loop-written
invariant-loop-written l = map seen_listed l.into.items ++ map (member_in l.holder l.under) (map seen_written (drop l.written-index l.members))
    ≡ map seen_listed l.fn.into.items ++ map (member_in l.holder l.under) (map seen_written l.members)
