use Rattle.std.proofs.Common.{arith}
use Rattle.record_text.proofs.PickSteps.{word_within}
use Rattle.record_text.proofs.pick_scan.word_length.Goals as goal

pub returns-clause-few : goal.returns-clause-few
returns-clause-few c = omega (arith, c.length_before_space.ensures, word_within c.args.text.now)
