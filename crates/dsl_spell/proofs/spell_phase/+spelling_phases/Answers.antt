use Rattle.std.proofs.Common.{refl}
use Rattle.std.proofs.lemmas.Result.{on_ok_weaker}
use Rattle.dsl_spell.proofs.Places.{one_more, all_done, phases_of, phase_steps, block_writes}
use Rattle.dsl_spell.proofs.spell_phase.+spelling_phases.Goals as goal

pub push_phases-phases-preserved : goal.push_phases-phases-preserved
push_phases-phases-preserved t c =
    one_more phases_of c.args.phases.now c.phases.tree-index c.tree-item.result c.args.w.now c.phases.w c.push_phase.new.w c.phases.invariant
    (phase_steps c.tree-item.result c.phases.w c.push_phase.new.w c.in_ok-push_phase.ensures) c.phases-test.true c.tree-item.is

pub push_phases-returns : goal.push_phases-returns
push_phases-returns t c =
    on_ok_weaker c.end_block.result
    (block_writes c.args.w.now c.phases.w c.end_block.new.self c.args.phases.now (all_done phases_of c.args.phases.now c.phases.tree-index c.args.w.now c.phases.w c.phases.invariant c.phases-test.false refl))
    c.end_block.ensures
