use Rattle.std.proofs.Common.{[], drop}
use Rattle.type_members.specs.osc_base.FaultRows.{first_from}
use Rattle.type_members.specs.type_heads.HeadingFaults.{bracket_rows}
use Rattle.heading_faults.proofs.BracketSteps.{Left}
use Rattle.heading_faults.proofs.brackets.with_brackets.Given as goal

abbrev pub invariant-loop-base : goal.invariant-loop-base
invariant-loop-base l = Left (first_from l.fn.first (bracket_rows [] l.bases)) l.earlier l.found (drop l.base-index l.bases)
