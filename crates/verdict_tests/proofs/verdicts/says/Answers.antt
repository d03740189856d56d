use Rattle.std.proofs.Common.{◌≡◌, arith, to_z, of_z, w64}
use Rattle.std.proofs.lemmas.Int.{ints}
use Rattle.verdict_tests.proofs.Rows.{box, judges}
use Rattle.verdict_tests.proofs.verdicts.says.Goals as goal

pub judge-requires-clause-reach : goal.judge-requires-clause-reach
judge-requires-clause-reach c =
    let low : to_z w64 (of_z w64 c.args.low) ≡ c.args.low = omega (arith, ints) in
    let high : to_z w64 (of_z w64 c.args.high) ≡ c.args.high = omega (arith, ints) in
    let pairs : c.push.new.self ≡ box c.args.low c.args.high = cc (c.in_ok-push.ensures.ok) in
    rw pairs (judges c.args.rule.now c.args.low c.args.high c.requires.rule c.requires.ordered c.requires.low c.requires.high).reach
