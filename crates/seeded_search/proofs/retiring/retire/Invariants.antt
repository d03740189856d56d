use Rattle.seeded_search.specs.Runs.{IsRetired}
use Rattle.seeded_search.proofs.retiring.retire.Given as goal

abbrev pub invariant-loop-number : goal.invariant-loop-number
invariant-loop-number l = IsRetired l.task l.initial.work l.trail l.work l.ring
