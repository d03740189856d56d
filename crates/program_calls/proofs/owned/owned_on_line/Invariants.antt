use Rattle.std.proofs.Common.{◌≡◌, length}
use Rattle.composition.specs.type_heads.Table.{line_within}
use Rattle.program_calls.specs.SeenCallees.{owned_along}
use Rattle.program_calls.proofs.owned.owned_on_line.Given as goal

abbrev pub invariant-loop-steps : goal.invariant-loop-steps
invariant-loop-steps l =
    owned_along l.types.table.heads l.name (line_within l.steps l.types.table.heads l.at)
    ≡ owned_along l.types.table.heads l.name (line_within (length l.types.table.heads) l.types.table.heads l.fn.of)

abbrev pub decreases-loop-steps : goal.decreases-loop-steps
decreases-loop-steps l = l.steps
