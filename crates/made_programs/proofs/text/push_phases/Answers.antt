use Rattle.made_programs.specs.MadeText.{phase_lines}
use Rattle.made_programs.proofs.Rows.{one_more}
use Rattle.made_programs.proofs.text.push_phases.Goals as goal

pub loop-phase-preserved : goal.loop-phase-preserved
loop-phase-preserved c = one_more (phase_lines c.args.count) _ _ _ c.loop-phase.phase c.loop-phase.invariant c.in_ok-push_phase.ensures
