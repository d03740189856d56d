use Rattle.seeded_search.specs.Runs.{Swept}
use Rattle.seeded_search.proofs.turns.sweep.Given as goal

abbrev pub invariant-loop-slot : goal.invariant-loop-slot
invariant-loop-slot l = Swept l.task l.number l.slot-index l.step l.initial.work l.initial.trail l.initial.ring l.work l.trail l.ring
