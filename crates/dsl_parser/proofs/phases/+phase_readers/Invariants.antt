use Rattle.std.proofs.Common.{◌*◌, ◌+◌, ◌≤◌, [], ◌∷◌, length}
use Rattle.dsl_cursor.specs.Words.{Part}
use Rattle.dsl_parser.specs.Words.{phases_rest}
use Rattle.dsl_cursor.proofs.Loops.{Along}
use Rattle.dsl_parser.proofs.phases.+phase_readers.Given as goal

abbrev pub decreases-phase : goal.decreases-phase
decreases-phase l = 2 * length l.tokens.now + 0

abbrev pub decreases-phases_in_block : goal.decreases-phases_in_block
decreases-phases_in_block l = 2 * length l.tokens.now + 1

abbrev pub decreases-phases_from : goal.decreases-phases_from
decreases-phases_from l = 2 * length l.tokens.now + 1

abbrev pub invariant-phases_from-phases : goal.invariant-phases_from-phases
invariant-phases_from-phases l = Along Part.PhasesTail phases_rest (l.fn.first ∷ []) l.phases l.fn.tokens l.tokens × (length l.tokens ≤ length l.fn.tokens)

abbrev pub decreases-phases_from-phases : goal.decreases-phases_from-phases
decreases-phases_from-phases l = length l.tokens
