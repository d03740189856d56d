use Rattle.std.proofs.Common.{arith, refl, get_or}
use Rattle.seeded_search.proofs.SlotLists.{entered_more}
use Rattle.seeded_search.proofs.Wakings.{below_at}
use Rattle.seeded_search.proofs.lists.enter.Goals as goal

pub index_mut-requires : goal.index_mut-requires
index_mut-requires c = omega (arith, c.loop-slot.lists.ok.0, c.loop-slot.invariant.long, below_at _ c.args.slots.now c.loop-slot.slot-index c.requires.below c.loop-slot-test.true)

pub loop-slot-preserved : goal.loop-slot-preserved
loop-slot-preserved c = entered_more c.args.number c.args.slots.now c.loop-slot.slot-index (get_or c.args.slots.now c.loop-slot.slot-index 0) c.args.lists.now.items c.loop-slot.lists.items c.index_mut.result.now c.push.new.self
    c.requires.ascending c.loop-slot-test.true refl (below_at _ c.args.slots.now c.loop-slot.slot-index c.requires.below c.loop-slot-test.true) c.loop-slot.invariant c.index_mut.ensures.value c.in_ok-push.ensures.ok
