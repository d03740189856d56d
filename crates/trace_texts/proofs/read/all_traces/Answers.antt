use Rattle.trace_texts.specs.TraceShape.{trace_after}
use Rattle.serde_json.specs.View.{view}
use Rattle.trace_texts.proofs.Items.{one_more, longer, item_stops}
use Rattle.trace_texts.proofs.read.all_traces.Goals as goal

pub loop-place-preserved : goal.loop-place-preserved
loop-place-preserved c = record {
  many = longer c.loop-place.gathered.traces _ c.loop-place.place c.in_ok-trace.trace c.loop-place.invariant.many c.in_ok-gathered.ensures;
  told = one_more c.args.count _ c.loop-place.gathered.traces _ c.args.items.now c.loop-place.place c.index-items-place.result c.in_ok-trace.trace c.loop-place.invariant.told
      c.loop-place-test.true c.index-items-place.is c.loop-place.invariant.many c.in_ok-gathered.ensures
      (c.in_ok-trace.ensures (trace_after c.args.count c.loop-place.gathered.traces (view c.index-items-place.result)) c.trace_after.ensures);
}

pub returns-in_err-trace : goal.returns-in_err-trace
returns-in_err-trace c =
    item_stops c.args.count _ c.loop-place.gathered.traces c.args.items.now c.loop-place.place c.index-items-place.result c.in_err-trace.field-0.0 c.from_residual.result
    c.loop-place.invariant.told c.loop-place-test.true c.index-items-place.is c.loop-place.invariant.many
    (c.in_err-trace.ensures (trace_after c.args.count c.loop-place.gathered.traces (view c.index-items-place.result)) c.trace_after.ensures) c.from_residual.ensures.1
