use Rattle.std.proofs.Common.{◌∙◌}
use Rattle.outside_io.proofs.Pieces.{append_more, piece_within}
use Rattle.outside_io.proofs.loops.write_all.Goals as goal

pub loop-done-preserved : goal.loop-done-preserved
loop-done-preserved g c = record {
  within = piece_within c.args.bytes.now c.loop-done.done c.in-Ok.count c.loop-done.invariant.within c.in-Ok.ensures.within;
  written = append_more _ _ _ _ _ _ c.loop-done.invariant.written c.in-Ok.ensures.appends;
  counted = c.in-Ok.ensures.steady ∙ c.loop-done.invariant.counted;
}

pub returns-in-Err-clause-part : goal.returns-in-Err-clause-part
returns-in-Err-clause-part g c = let p = c.in-Err.ensures.part in
    (_, append_more _ _ _ _ _ _ c.loop-done.invariant.written p.1)
