use Rattle.dsl_spell.proofs.Places.{Left, others_of}
use Rattle.dsl_spell.proofs.spell_phase.push_arguments.Given as goal

abbrev pub invariant-others : goal.invariant-others
invariant-others l = Left others_of l.others l.argument-index l.initial.w l.w
