use Rattle.std.proofs.Common.{◌≡◌, is_some, length}
use Rattle.record_text.proofs.Writing.{IsLeft}
use Rattle.record_text.proofs.write.write_record.Given as goal

abbrev pub invariant-loop-lines : goal.invariant-loop-lines
invariant-loop-lines g l = record {
  left : IsLeft l.claim l.lines l.picks (g.K.Sink.contents l.initial.sink) (g.K.Sink.contents l.sink) l.page.items;
  counted : g.K.Sink.faults l.sink ≡ g.K.Sink.faults l.initial.sink;
  telling : is_some (g.K.Sink.contents l.sink) ≡ is_some (g.K.Sink.contents l.initial.sink);
}

abbrev pub decreases-loop-lines : goal.decreases-loop-lines
decreases-loop-lines g l = length l.lines
