use Rattle.run_exports.proofs.Padding.{fixed_six}
use Rattle.run_exports.proofs.decimals.push_millionths.Goals as goal

pub returns : goal.returns
returns c = rw (c.laid_out.ensures, fixed_six c.args.number) at c.write.ensures.bytes
