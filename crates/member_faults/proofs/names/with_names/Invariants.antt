use Rattle.std.proofs.Common.{take}
use Rattle.member_faults.specs.NamePlaces.{lent_names}
use Rattle.fault_sets.specs.NameRows.{ContinuesNames}
use Rattle.member_faults.proofs.names.with_names.Given as goal

abbrev pub invariant-loop-name : goal.invariant-loop-name
invariant-loop-name l = ContinuesNames l.fn.first l.fn.met l.found l.met (lent_names (take l.name-index l.names))
