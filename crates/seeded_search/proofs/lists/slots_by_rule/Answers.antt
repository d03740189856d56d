use Rattle.std.proofs.Common.{arith}
use Rattle.seeded_search.proofs.SlotLists.{item_at, slot_lists_more, slot_lists_all}
use Rattle.seeded_search.proofs.lists.slots_by_rule.Goals as goal

pub loop-rule-preserved : goal.loop-rule-preserved
loop-rule-preserved c = slot_lists_more c.args.rules.now c.loop-rule.rule-index c.loop-rule.lists.items c.rule-item.result c.in_ok-slots_of.field-0 c.push.new.self.items c.loop-rule.invariant (item_at c.args.rules.now c.loop-rule.rule-index c.rule-item.result c.loop-rule-test.true c.rule-item.is) c.in_ok-slots_of.ensures c.in_ok-push.ensures.items

pub returns : goal.returns
returns c = slot_lists_all c.args.rules.now c.loop-rule.rule-index c.loop-rule.lists.items (omega (arith, c.loop-rule-test.false, c.loop-rule.auto.rule-index-end)) c.loop-rule.invariant
