use Rattle.std.proofs.Common.{subst}
use Rattle.serde_json.specs.Find.{at}
use Rattle.serde_json.specs.View.{view}
use Rattle.run_texts.specs.RunShape.{if_there}
use Rattle.run_texts.specs.RunReading.{IsTold}
use Rattle.run_texts.proofs.shapes.item_at.Goals as goal

pub returns : goal.returns
returns g c =
    c.in_item.ensures (if_there g.T.FromJson.from_data (at c.args.place (view c.args.json.now)))
    (subst (λ o. IsTold (if_there g.T.FromJson.from_data o) c.if_there.result) c.get.ensures c.if_there.ensures)
