use Rattle.std.proofs.Common.{ap₂, arith}
use Rattle.std.proofs.lemmas.Int.{ints}
use Rattle.box_eval.proofs.Numbers.{span}
use Rattle.box_eval.proofs.verdict.less.Goals as goal

pub returns : goal.returns
returns c = ap₂ span (omega (arith, ints)) (omega (arith, ints))
