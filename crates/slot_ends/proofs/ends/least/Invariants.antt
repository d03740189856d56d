use Rattle.std.proofs.Common.{◌≡◌, drop, fold}
use Rattle.std.specs.Int.{int_min}
use Rattle.slot_ends.proofs.ends.least.Given as goal

abbrev pub invariant-numbers : goal.invariant-numbers
invariant-numbers l = fold int_min l.first l.later ≡ fold int_min l.least (drop l.number-index l.later)
