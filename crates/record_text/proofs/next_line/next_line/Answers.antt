use Rattle.std.proofs.Common.{sym, subst, arith}
use Rattle.record_text.proofs.Lines.{IsHeld, found_held, held_more}
use Rattle.record_text.proofs.Reading.{reads_then}
use Rattle.record_text.proofs.next_line.next_line.Goals as goal

pub returns-then-byte-eq10-clause-finds : goal.returns-then-byte-eq10-clause-finds
returns-then-byte-eq10-clause-finds g c =
    let gives = c.in_ok-byte.ensures.byte c.in-Some.byte (cc) in
    found_held _ _ _ _ _ _ _ _ _ _ c.loop-byte.invariant.read gives c.if-byte-eq10.true c.as_slice.ensures.value c.find_line.ensures

pub loop-byte-smaller : goal.loop-byte-smaller
loop-byte-smaller g c = let e = c.in_ok-byte.ensures.byte c.in-Some.byte (cc) in omega (arith, e.given, c.in_ok-byte.ensures.further.few)

pub loop-byte-preserved : goal.loop-byte-preserved
loop-byte-preserved g c = record {
  grows = omega (arith, c.loop-byte.invariant.grows, c.in_ok-byte.ensures.further.grows);
  read = subst (λ bs. IsHeld bs c.args.source.now c.next.new.self (g.H.Shelf.left c.args.shelf.now) (g.H.Shelf.left c.next.new.shelf)) (sym c.hold.ensures)
      (held_more _ _ _ _ _ _ _ _ c.loop-byte.invariant.read c.if-byte-eq10.false (c.in_ok-byte.ensures.byte c.in-Some.byte (cc)));
  shelf = reads_then _ _ _ _ _ _ _ _ _ _ c.loop-byte.invariant.shelf c.in_ok-byte.ensures.shelf;
}
