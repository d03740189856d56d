use Rattle.std.proofs.Common.{◌≡◌, ◌++◌, drop}
use Rattle.member_faults.specs.NamePlaces.{lent_names}
use Rattle.member_faults.proofs.labels.push_names.Given as goal

abbrev pub invariant-loop-name : goal.invariant-loop-name
invariant-loop-name l = lent_names l.fn.into.items ++ l.names ≡ lent_names l.into.items ++ drop l.name-index l.names
