use Rattle.serde_json.specs.View.{view}
use Rattle.run_texts.proofs.Told.{list_err}
use Rattle.run_texts.proofs.shapes.all_in.Goals as goal

pub returns-in_err-part : goal.returns-in_err-part
returns-in_err-part g c =
    list_err g.T.FromJson.from_data _ c.loop-place.parts c.loop-place.place c.args.items.now c.index-items-place.result c.in_err-part.field-0.0 c.from_residual.result
    c.loop-place.invariant c.loop-place-test.true c.index-items-place.is
    (c.in_err-part.ensures (g.T.FromJson.from_data (view c.index-items-place.result)) c.from_json.ensures) c.from_residual.ensures.1
