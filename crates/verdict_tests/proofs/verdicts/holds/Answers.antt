use Rattle.std.proofs.Common.{◌≡◌, arith, to_z, of_z, w64}
use Rattle.std.proofs.lemmas.Int.{ints}
use Rattle.verdict_tests.proofs.Rows.{judges}
use Rattle.verdict_tests.proofs.verdicts.holds.Goals as goal

pub truth-requires-clause-reach : goal.truth-requires-clause-reach
truth-requires-clause-reach c =
    let value : to_z w64 (of_z w64 c.args.x) ≡ c.args.x = omega (arith, ints) in
    rw value (judges c.args.rule.now c.args.x c.args.x c.requires.rule (omega (arith, ints)) c.requires.low c.requires.high).reach
