use Rattle.seeded_search.proofs.Wakings.{below_at}
use Rattle.seeded_search.proofs.retiring.is_fixed.Goals as goal

pub low-requires : goal.low-requires
low-requires c = below_at _ c.args.slots.now c.loop-slot.slot-index c.requires c.loop-slot-test.true

pub high-requires : goal.high-requires
high-requires c = below_at _ c.args.slots.now c.loop-slot.slot-index c.requires c.loop-slot-test.true
