use Rattle.serde_json.specs.View.{view}
use Rattle.trace_texts.proofs.Sound.{are_traces}
use Rattle.trace_texts.proofs.read.read_traces.Goals as goal

pub returns-in-Ok-clause-traces : goal.returns-in-Ok-clause-traces
returns-in-Ok-clause-traces c = are_traces (view c.in_ok-json.json) c.in-Ok.traces c.in-Ok.ensures
