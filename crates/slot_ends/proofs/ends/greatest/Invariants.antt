use Rattle.std.proofs.Common.{◌≡◌, drop, fold}
use Rattle.std.specs.Int.{int_max}
use Rattle.slot_ends.proofs.ends.greatest.Given as goal

abbrev pub invariant-numbers : goal.invariant-numbers
invariant-numbers l = fold int_max l.first l.later ≡ fold int_max l.greatest (drop l.number-index l.later)
