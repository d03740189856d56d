use Rattle.std.proofs.Common.{subst}
use Rattle.std.specs.Prelude.{codes}
use Rattle.serde_json.specs.Find.{get}
use Rattle.serde_json.specs.View.{view}
use Rattle.run_texts.specs.RunShape.{if_there}
use Rattle.run_texts.specs.RunReading.{IsTold}
use Rattle.trace_texts.specs.TraceShape.{traces_in}
use Rattle.trace_texts.proofs.read.traces_at.Goals as goal

pub returns : goal.returns
returns c =
    c.in_key.ensures (if_there (traces_in c.args.count) (get (codes "traces") (view c.args.json.now)))
    (subst (λ o. IsTold (if_there (traces_in c.args.count) o) c.if_traces.result) c.get.ensures c.if_traces.ensures)
