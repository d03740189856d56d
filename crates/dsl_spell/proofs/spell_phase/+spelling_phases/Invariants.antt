use Rattle.dsl_spell.proofs.Places.{Left, phases_of}
use Rattle.dsl_spell.proofs.spell_phase.+spelling_phases.Given as goal

abbrev pub invariant-push_phases-phases : goal.invariant-push_phases-phases
invariant-push_phases-phases l = Left phases_of l.phases l.tree-index l.fn.w l.w
