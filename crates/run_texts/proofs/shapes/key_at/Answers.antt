use Rattle.std.proofs.Common.{subst}
use Rattle.serde_json.specs.Find.{get}
use Rattle.serde_json.specs.View.{view}
use Rattle.run_texts.specs.RunShape.{if_there}
use Rattle.run_texts.specs.RunReading.{IsTold}
use Rattle.run_texts.proofs.shapes.key_at.Goals as goal

pub returns : goal.returns
returns g c =
    c.in_key.ensures (if_there g.T.FromJson.from_data (get c.args.key.now (view c.args.json.now)))
    (subst (λ o. IsTold (if_there g.T.FromJson.from_data o) c.if_there.result) c.get.ensures c.if_there.ensures)
