use Rattle.std.proofs.Common.{◌≡◌, drop}
use Rattle.std.specs.List.{list_any}
use Rattle.type_members.specs.Shared.{has_places}
use Rattle.type_members.proofs.cutting.one_has_places.Given as goal

abbrev pub invariant-loop-part : goal.invariant-loop-part
invariant-loop-part l = list_any has_places (drop l.part-index l.parts) ≡ list_any has_places l.parts
