use Rattle.std.proofs.Common.{arith}
use Rattle.std.proofs.lemmas.Int.{ints}
use Rattle.linear_sums.proofs.Gathering.{added_at, index_value}
use Rattle.linear_sums.proofs.forms.add_at.Goals as goal

pub returns : goal.returns
returns c = added_at c.args.sums.now c.args.slot _ c.args.number c.requires.slots (omega (arith, ints, c.requires.room c.args.slot, index_value c.args.sums.now c.args.slot))
