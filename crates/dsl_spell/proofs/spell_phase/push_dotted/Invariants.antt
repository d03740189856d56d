use Rattle.dsl_spell.specs.Writing.{dotted_names}
use Rattle.dsl_spell.proofs.Places.{Left}
use Rattle.dsl_spell.proofs.spell_phase.push_dotted.Given as goal

abbrev pub invariant-names : goal.invariant-names
invariant-names l = Left dotted_names l.names l.text-index l.fn.w l.w
