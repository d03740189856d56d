use Rattle.std.proofs.Common.{◌∙◌}
use Rattle.scene_conditions.specs.composition.There.{is_met}
use Rattle.run_values.specs.run_entries.SeenRuns.{seen_run}
use Rattle.run_values.proofs.Rows.{all_mapped}
use Rattle.scene_conditions.specs.SeenConditions.{seen_condition}
use Rattle.run_constraints.proofs.presence.are_met.Goals as goal

pub returns : goal.returns
returns c = c.each_is_met.ensures ∙ all_mapped seen_condition (is_met (seen_run c.args.run.now)) c.args.conditions.now
