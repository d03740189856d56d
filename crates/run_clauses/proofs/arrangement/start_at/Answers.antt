use Rattle.std.proofs.Common.{◌∙◌, sym}
use Rattle.osc_base.specs.Comparisons.{same_number}
use Rattle.run_entries.specs.composition.Items.{times_of}
use Rattle.run_entries.specs.SeenRuns.{seen_run}
use Rattle.run_clauses.proofs.Ticks.{all_mapped}
use Rattle.run_clauses.proofs.arrangement.start_at.Goals as goal

pub returns : goal.returns
returns c =
    c.each_starts_at.ensures
    ∙ sym (all_mapped (same_number ((times_of (seen_run c.args.run.now)).start c.args.first.now)) (times_of (seen_run c.args.run.now)).start c.args.phases.now)
