use Rattle.std.proofs.Common.{subst}
use Rattle.serde_json.specs.Find.{at}
use Rattle.serde_json.specs.View.{view}
use Rattle.run_texts.specs.RunShape.{if_there}
use Rattle.run_texts.specs.RunReading.{IsTold}
use Rattle.trace_texts.specs.TraceShape.{fresh_path}
use Rattle.trace_texts.proofs.read.path_at.Goals as goal

pub returns : goal.returns
returns c =
    c.in_item.ensures (if_there (fresh_path c.args.before.now.traces) (at 0 (view c.args.json.now)))
    (subst (λ o. IsTold (if_there (fresh_path c.args.before.now.traces) o) c.if_fresh.result) c.get.ensures c.if_fresh.ensures)
