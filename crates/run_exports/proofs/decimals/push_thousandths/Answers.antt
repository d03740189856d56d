use Rattle.run_exports.proofs.Padding.{fixed_three}
use Rattle.run_exports.proofs.decimals.push_thousandths.Goals as goal

pub returns : goal.returns
returns c = rw (c.laid_out.ensures, fixed_three c.args.number) at c.write.ensures.bytes
