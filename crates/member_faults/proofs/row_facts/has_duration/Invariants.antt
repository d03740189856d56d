use Rattle.std.proofs.Common.{◌≡◌, drop}
use Rattle.std.specs.Prelude.{codes}
use Rattle.member_faults.specs.NamePlaces.{has_text, lent_names}
use Rattle.member_faults.proofs.row_facts.has_duration.Given as goal

abbrev pub invariant-loop-name : goal.invariant-loop-name
invariant-loop-name l = has_text (codes "duration") (lent_names l.names) ≡ has_text (codes "duration") (lent_names (drop l.name-index l.names))
