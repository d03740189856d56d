use Rattle.std.proofs.Common.{refl}
use Rattle.dsl_spell.specs.Writing.{dotted_names}
use Rattle.dsl_spell.proofs.Places.{one_more, all_done, dotted_steps}
use Rattle.dsl_spell.proofs.spell_phase.push_dotted.Goals as goal

pub names-preserved : goal.names-preserved
names-preserved c =
    one_more dotted_names c.args.names.now c.names.text-index c.text-item.result c.args.w.now c.names.w c.name.new.self c.names.invariant
    (dotted_steps c.text-item.result c.names.w c.bare_mark.new.self c.name.new.self c.in_ok-bare_mark.ensures c.in_ok-name.ensures) c.names-test.true c.text-item.is

pub returns : goal.returns
returns c = all_done dotted_names c.args.names.now c.names.text-index c.args.w.now c.names.w c.names.invariant c.names-test.false refl
