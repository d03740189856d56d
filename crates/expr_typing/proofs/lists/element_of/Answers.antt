use Rattle.std.specs.Prelude.{option_copied}
use Rattle.expr_typing.proofs.Indexes.{element_seen}
use Rattle.expr_typing.proofs.lists.element_of.Goals as goal

pub returns-then-is_field : goal.returns-then-is_field
returns-then-is_field c = element_seen c.args.head.now c.in-Listed.info c.in-Listed.is_field c.in-Listed.items c.as_slice.result.now c.args.number (option_copied c.item_of.result)
    c.in-Listed.is c.if-is_field.true c.as_slice.ensures c.item_of.ensures
