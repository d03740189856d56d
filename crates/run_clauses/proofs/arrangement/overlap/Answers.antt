use Rattle.std.proofs.Common.{◌∙◌, sym, pos}
use Rattle.std.specs.Prelude.{int_le}
use Rattle.run_entries.specs.composition.Arrangement.{starts_of, ends_of}
use Rattle.run_entries.specs.composition.Items.{times_of}
use Rattle.run_entries.specs.SeenRuns.{seen_run}
use Rattle.run_clauses.specs.Latest.{latest}
use Rattle.run_clauses.proofs.Ticks.{all_mapped, overlap_latest, ends_from_first}
use Rattle.run_clauses.proofs.arrangement.overlap.Goals as goal

pub returns : goal.returns
returns c =
    c.end_after_starts.ensures
    ∙ sym (all_mapped (int_le (latest (pos 0) (starts_of (times_of (seen_run c.args.run.now)) c.args.phases.now))) (times_of (seen_run c.args.run.now)).end c.args.phases.now)
    ∙ overlap_latest (starts_of (times_of (seen_run c.args.run.now)) c.args.phases.now) (ends_of (times_of (seen_run c.args.run.now)) c.args.phases.now)
    (ends_from_first (seen_run c.args.run.now) c.args.phases.now)
