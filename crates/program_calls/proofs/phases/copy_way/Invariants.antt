use Rattle.std.proofs.Common.{◌≡◌, take}
use Rattle.program_calls.proofs.phases.copy_way.Given as goal

abbrev pub invariant-loop-turn : goal.invariant-loop-turn
invariant-loop-turn l = l.copies ≡ take l.turn-index l.way
