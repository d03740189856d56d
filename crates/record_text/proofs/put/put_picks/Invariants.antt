use Rattle.std.proofs.Common.{◌≡◌, is_some, length}
use Rattle.record_text.proofs.Writing.{ArePut}
use Rattle.record_text.proofs.put.put_picks.Given as goal

abbrev pub invariant-loop-rest : goal.invariant-loop-rest
invariant-loop-rest g l = record {
  put : ArePut l.picks l.rest (g.K.Sink.contents l.initial.sink) (g.K.Sink.contents l.sink) l.initial.page.items l.page.items;
  counted : g.K.Sink.faults l.sink ≡ g.K.Sink.faults l.initial.sink;
  telling : is_some (g.K.Sink.contents l.sink) ≡ is_some (g.K.Sink.contents l.initial.sink);
}

abbrev pub decreases-loop-rest : goal.decreases-loop-rest
decreases-loop-rest g l = length l.rest
