use Rattle.std.proofs.Common.{◌≡◌, [], drop, length}
use Rattle.serde_json.specs.View.{items_view}
use Rattle.trace_texts.specs.TraceShape.{traces_after}
use Rattle.trace_texts.proofs.read.all_traces.Given as goal

abbrev pub invariant-loop-place : goal.invariant-loop-place
invariant-loop-place l = record {
  many : length l.gathered.traces ≡ l.place;
  told : traces_after l.count l.gathered.traces (items_view (drop l.place l.items)) ≡ traces_after l.count [] (items_view l.items);
}
