use Rattle.std.proofs.Common.{◌≡◌, take}
use Rattle.text_constraints.proofs.copies.copy_guards.Given as goal

abbrev pub invariant-loop-guard : goal.invariant-loop-guard
invariant-loop-guard l = l.copies ≡ take l.guard-index l.guards
