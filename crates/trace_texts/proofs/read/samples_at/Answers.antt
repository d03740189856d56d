use Rattle.std.proofs.Common.{subst}
use Rattle.serde_json.specs.Find.{at}
use Rattle.serde_json.specs.View.{view}
use Rattle.run_texts.specs.RunShape.{if_there}
use Rattle.run_texts.specs.RunReading.{IsTold}
use Rattle.trace_texts.specs.TraceShape.{samples_in}
use Rattle.trace_texts.proofs.read.samples_at.Goals as goal

pub returns : goal.returns
returns c =
    c.in_item.ensures (if_there (samples_in c.args.count) (at 1 (view c.args.json.now)))
    (subst (λ o. IsTold (if_there (samples_in c.args.count) o) c.if_samples.result) c.get.ensures c.if_samples.ensures)
