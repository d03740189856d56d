use Rattle.std.proofs.Common.{◌≡◌, take}
use Rattle.object_works.proofs.copies.copy_way.Given as goal

abbrev pub invariant-loop-turn : goal.invariant-loop-turn
invariant-loop-turn l = l.copies ≡ take l.turn-index l.way
