use Rattle.linear_sums.proofs.Cancelling.{too_large, counts}
use Rattle.linear_sums.proofs.multiples.least_multiples.Goals as goal

pub returns-in_err-common : goal.returns-in_err-common
returns-in_err-common c =
    let e = c.in_err-common.ensures in
    rw c.from_residual.ensures (too_large c.args.a c.args.b e.0 c.requires.first c.requires.second e.1 e.2)

pub returns : goal.returns
returns c =
    let e = c.in_ok-common.ensures in
    counts c.args.a c.args.b c.in_ok-common.common e.0 c.requires.first c.requires.second e.1 (e.2.1) c.small_multiples.result c.small_multiples.ensures
