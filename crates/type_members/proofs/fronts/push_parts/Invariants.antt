use Rattle.std.proofs.Common.{◌≡◌, ◌++◌, drop, filter}
use Rattle.type_members.specs.Shared.{has_places}
use Rattle.type_members.proofs.fronts.push_parts.Given as goal

abbrev pub invariant-loop-part : goal.invariant-loop-part
invariant-loop-part l = l.into.items ++ filter has_places (drop l.part-index l.parts) ≡ l.fn.into.items ++ filter has_places l.parts
