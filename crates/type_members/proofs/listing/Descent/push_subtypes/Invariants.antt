use Rattle.std.proofs.Common.{◌≡◌, ◌≤◌, ◌++◌, drop, length}
use Rattle.std.specs.Prelude.{flat_map}
use Rattle.type_members.specs.Listing.{deeper, kept, listed_within, pending, way_of}
use Rattle.type_members.proofs.listing.Descent.push_subtypes.Given as goal

abbrev pub invariant-loop-left : goal.invariant-loop-left
invariant-loop-left l = record {
  within : l.left ≤ length l.subtypes;
  rest : pending (way_of l.self) l.tasks.items
      ≡ flat_map (λ c. listed_within l.steps (way_of l.self) (deeper (way_of l.self) l.under c) c) (kept (way_of l.self) (drop l.left l.subtypes)) ++ pending (way_of l.self) l.fn.tasks.items;
}

abbrev pub decreases-loop-left : goal.decreases-loop-left
decreases-loop-left l = l.left
