use Rattle.expr_typing.proofs.SlotValues.{literal_is}
use Rattle.expr_typing.proofs.physical.slot_value.Goals as goal

pub returns : goal.returns
returns c = literal_is c.args.number.now c.args.unit.now c.literal.result c.literal.ensures.exact
