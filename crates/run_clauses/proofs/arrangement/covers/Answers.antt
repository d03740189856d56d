use Rattle.std.proofs.Common.{◌∙◌}
use Rattle.run_entries.specs.composition.Items.{times_of}
use Rattle.run_entries.specs.SeenRuns.{seen_run}
use Rattle.run_clauses.proofs.Ticks.{covers_is}
use Rattle.run_clauses.proofs.arrangement.covers.Goals as goal

pub returns : goal.returns
returns c = c.spans.ensures ∙ covers_is (times_of (seen_run c.args.run.now)) c.args.whole.now c.args.phases.now
