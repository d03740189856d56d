use Rattle.std.proofs.Common.{◌≡◌, ◌++◌, drop, map}
use Rattle.program_calls.specs.PlacedPhases.{seen_phase}
use Rattle.program_uses.specs.InvokedTypes.{invoked_in}
use Rattle.program_uses.proofs.invocations.invoked_by_phases.Given as goal

abbrev pub invariant-loop-placed : goal.invariant-loop-placed
invariant-loop-placed l = l.all ++ invoked_in l.types.table l.holder (map seen_phase (drop l.placed-index l.phases)) ≡ invoked_in l.types.table l.holder (map seen_phase l.phases)
