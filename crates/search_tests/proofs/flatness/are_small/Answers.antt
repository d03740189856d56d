use Rattle.std.proofs.Common.{refl, arith}
use Rattle.search_tests.specs.Small.{IsSmall}
use Rattle.search_tests.proofs.Flats.{each_more, read_at, index_below}
use Rattle.search_tests.proofs.flatness.are_small.Goals as goal

pub loop-pair-preserved : goal.loop-pair-preserved
loop-pair-preserved c = each_more IsSmall c.args.pairs.now c.loop-pair.pair-index _ c.loop-pair.invariant (read_at c.args.pairs.now c.loop-pair.pair-index _ c.loop-pair-test.true) (c.if-not-is_small.ensures refl)

pub returns : goal.returns
returns c says k pair is = c.loop-pair.invariant k pair (omega (arith, index_below c.args.pairs.now k pair is, c.loop-pair-test.false)) is
