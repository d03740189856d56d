use Rattle.std.proofs.Common.{refl, arith}
use Rattle.search_tests.specs.Small.{IsSmallRule}
use Rattle.search_tests.proofs.Flats.{each_more, item_at, index_below}
use Rattle.search_tests.proofs.flatness.are_small_rules.Goals as goal

pub loop-rule-preserved : goal.loop-rule-preserved
loop-rule-preserved c = each_more (IsSmallRule c.args.slots) c.args.rules.now c.loop-rule.rule-index c.rule-item.result c.loop-rule.invariant (item_at c.args.rules.now c.loop-rule.rule-index c.rule-item.result c.loop-rule-test.true c.rule-item.is) (c.if-not-is_small_rule.ensures refl)

pub returns : goal.returns
returns c says k rule is = c.loop-rule.invariant k rule (omega (arith, index_below c.args.rules.now k rule is, c.loop-rule-test.false)) is
