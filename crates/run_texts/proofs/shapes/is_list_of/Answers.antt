use Rattle.std.proofs.Common.{ap, length}
use Rattle.serde_json.specs.View.{view}
use Rattle.run_texts.proofs.Told.{counts_items}
use Rattle.run_texts.proofs.shapes.is_list_of.Goals as goal

pub returns-in-Some : goal.returns-in-Some
returns-in-Some c =
    counts_items (view c.args.json.now) c.in-Some.items.now.items c.args.count (length c.as_slice.result.now) c.in-Some.ensures (ap length c.as_slice.ensures.value)
