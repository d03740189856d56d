use Rattle.std.proofs.Common.{◌≡◌, drop}
use Rattle.std.specs.List.{list_any}
use Rattle.member_faults.specs.NamePlaces.{may_have}
use Rattle.member_faults.proofs.name_places.one_may_have.Given as goal

abbrev pub invariant-loop-part : goal.invariant-loop-part
invariant-loop-part l = list_any (may_have l.places l.name) l.parts ≡ list_any (may_have l.places l.name) (drop l.part-index l.parts)
