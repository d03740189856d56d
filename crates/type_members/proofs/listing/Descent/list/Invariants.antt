use Rattle.std.proofs.Common.{◌≡◌, ◌++◌, [], map}
use Rattle.type_members.specs.Listed.{seen_listed}
use Rattle.type_members.specs.Listing.{listed_within, pending, way_of}
use Rattle.type_members.proofs.listing.Descent.list.Given as goal

abbrev pub invariant-loop-step : goal.invariant-loop-step
invariant-loop-step l = map seen_listed l.into.items ++ pending (way_of l.self) l.tasks.items ≡ map seen_listed l.fn.into.items ++ listed_within l.steps (way_of l.self) [] l.fn.of
