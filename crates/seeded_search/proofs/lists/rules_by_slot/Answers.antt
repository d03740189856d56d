use Rattle.std.proofs.Common.{◌<◌, ap, arith, length, List, ℕ}
use Rattle.box_eval.proofs.Fits.{fits_at}
use Rattle.box_eval.proofs.ReadBounds.{read_below}
use Rattle.seeded_search.proofs.SlotLists.{slot_list_read, slots_below, rule_lists_more}
use Rattle.seeded_search.proofs.Working.{rule_there}
use Rattle.seeded_search.proofs.lists.rules_by_slot.Goals as goal

pub enter-requires-clause-below : goal.enter-requires-clause-below
enter-requires-clause-below c =
    let less : c.loop-number.number < length c.args.flat.now.rules = omega (arith, c.loop-number-test.true, ap (λ (ls : List (List ℕ)). length ls) c.deref-read-items.ensures.value, c.requires.slots.long) in
    let r = rule_there c.args.flat.now.rules c.loop-number.number less in
    let list = slot_list_read c.args.flat.now.rules c.args.slots.now.items c.loop-number.number r.0 c.deref-read-items.result.now c.read-item.result c.as_slice-in-loop-number.result.now c.requires.slots r.1 c.deref-read-items.ensures.value c.loop-number-test.true c.read-item.is c.as_slice-in-loop-number.ensures in
    let can = fits_at c.args.flat.now.bounds.pairs c.args.flat.now.rules c.loop-number.number r.0 c.requires.flat.fit r.1 in
    slots_below r.0 c.as_slice-in-loop-number.result.now (length c.loop-number.lists.items) list
    (λ slot reads. omega (arith, read_below r.0 slot reads, can.slots, c.loop-number.invariant.long))

pub enter-requires-clause-ascending : goal.enter-requires-clause-ascending
enter-requires-clause-ascending c =
    let less : c.loop-number.number < length c.args.flat.now.rules = omega (arith, c.loop-number-test.true, ap (λ (ls : List (List ℕ)). length ls) c.deref-read-items.ensures.value, c.requires.slots.long) in
    let r = rule_there c.args.flat.now.rules c.loop-number.number less in
    let list = slot_list_read c.args.flat.now.rules c.args.slots.now.items c.loop-number.number r.0 c.deref-read-items.result.now c.read-item.result c.as_slice-in-loop-number.result.now c.requires.slots r.1 c.deref-read-items.ensures.value c.loop-number-test.true c.read-item.is c.as_slice-in-loop-number.ensures in
    list.ascending

pub loop-number-preserved : goal.loop-number-preserved
loop-number-preserved c =
    let less : c.loop-number.number < length c.args.flat.now.rules = omega (arith, c.loop-number-test.true, ap (λ (ls : List (List ℕ)). length ls) c.deref-read-items.ensures.value, c.requires.slots.long) in
    let r = rule_there c.args.flat.now.rules c.loop-number.number less in
    let list = slot_list_read c.args.flat.now.rules c.args.slots.now.items c.loop-number.number r.0 c.deref-read-items.result.now c.read-item.result c.as_slice-in-loop-number.result.now c.requires.slots r.1 c.deref-read-items.ensures.value c.loop-number-test.true c.read-item.is c.as_slice-in-loop-number.ensures in
    rule_lists_more c.args.flat.now.rules c.loop-number.number (length c.args.flat.now.bounds.pairs) r.0 c.as_slice-in-loop-number.result.now c.loop-number.lists.items c.enter.new.lists.items r.1 list c.loop-number.invariant c.in_ok-enter.ensures
