use Rattle.std.proofs.Common.{◌≡◌, ◌++◌, length}
use Rattle.std.specs.String.{string_bytes}
use Rattle.flat_listing.specs.ListingText.{slot_lines}
use Rattle.flat_listing.proofs.slots.push_slots.Given as goal

abbrev pub invariant-loop-names : goal.invariant-loop-names
invariant-loop-names l = string_bytes l.text ++ slot_lines l.names l.pairs ≡ string_bytes l.fn.text ++ slot_lines l.slots l.ends

abbrev pub decreases-loop-names : goal.decreases-loop-names
decreases-loop-names l = length l.names
