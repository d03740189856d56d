use Rattle.std.proofs.Common.{subst}
use Rattle.serde_json.specs.Find.{get}
use Rattle.serde_json.specs.View.{view}
use Rattle.run_texts.specs.RunShape.{if_there, count_within}
use Rattle.run_texts.specs.RunReading.{IsTold}
use Rattle.run_texts.proofs.read.number_at.Goals as goal

pub returns : goal.returns
returns c =
    c.in_key.ensures (if_there (count_within c.args.low c.args.high) (get c.args.key.now (view c.args.json.now)))
    (subst (λ o. IsTold (if_there (count_within c.args.low c.args.high) o) c.if_within.result) c.get.ensures c.if_within.ensures)
