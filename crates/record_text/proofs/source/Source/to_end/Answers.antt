use Rattle.std.proofs.Common.{arith}
use Rattle.record_text.proofs.Reading.{read_more, reads_then}
use Rattle.record_text.proofs.source.Source.to_end.Goals as goal

pub loop-byte-smaller : goal.loop-byte-smaller
loop-byte-smaller g c = let e = c.in_ok-_byte.ensures.byte c.in-Some._byte (cc) in omega (arith, e.given, c.in_ok-_byte.ensures.further.few)

pub loop-byte-preserved : goal.loop-byte-preserved
loop-byte-preserved g c = record {
  grows = omega (arith, c.loop-byte.invariant.grows, c.in_ok-_byte.ensures.further.grows);
  read = read_more _ _ _ _ _ _ _ c.loop-byte.invariant.read (c.in_ok-_byte.ensures.byte c.in-Some._byte (cc));
  shelf = reads_then _ _ _ _ _ _ _ _ _ _ c.loop-byte.invariant.shelf c.in_ok-_byte.ensures.shelf;
}
