use Rattle.std.proofs.Common.{◌≡◌, drop}
use Rattle.member_faults.specs.NamePlaces.{lent_names, may_meet}
use Rattle.member_faults.proofs.name_places.may_meet.Given as goal

abbrev pub invariant-loop-name : goal.invariant-loop-name
invariant-loop-name l = may_meet l.places l.parts (lent_names l.names) ≡ may_meet l.places l.parts (lent_names (drop l.name-index l.names))
