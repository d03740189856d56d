use Rattle.std.proofs.Common.{◌≡◌, ◌++◌, drop, map}
use Rattle.type_members.specs.type_heads.Bodied.{seen_written}
use Rattle.heading_faults.specs.Holding.{fields_of}
use Rattle.heading_faults.proofs.held.push_fields.Given as goal

abbrev pub invariant-loop-written : goal.invariant-loop-written
invariant-loop-written l =
    l.fn.into.items ++ fields_of l.heads (map seen_written l.members) ≡ l.into.items ++ fields_of l.heads (map seen_written (drop l.written-index l.members))
