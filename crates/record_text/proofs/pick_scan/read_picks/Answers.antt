use Rattle.std.proofs.Common.{◌≤◌, ◌<◌, length, sym, subst, arith}
use Rattle.record_text.proofs.PickSteps.{AreRead, none_yet, some_if, room_if, pick_none, pick_some, read_stops, left_less, read_on}
use Rattle.record_text.proofs.pick_scan.read_picks.Goals as goal

pub loop-rest-init : goal.loop-rest-init
loop-rest-init c = subst (λ ps. AreRead c.args.text.now ps c.args.text.now) (sym c.clear.ensures) (none_yet c.args.text.now)

pub returns-in-None : goal.returns-in-None
returns-in-None c = read_stops c.args.text.now c.loop-rest.picks c.loop-rest.rest.now c.loop-rest.invariant
    (some_if c.loop-rest.rest.now c.is_empty.result c.is_empty.ensures c.loop-rest-test.true)
    (room_if (length c.loop-rest.picks) c.is_full.result c.is_full.ensures.value c.is_full.ensures.few c.if-is_full.false)
    (pick_none c.pick_with.result _ _ c.loop-rest.rest.now _ c.pick_with.ensures c.number_after.ensures c.after_number-rule_on.ensures c.number_after-in-loop-rest.ensures c.in-None.is)

pub loop-rest-smaller : goal.loop-rest-smaller
loop-rest-smaller c = let less : length c.after_number-rest.result.now < length c.loop-rest.rest.now =
    left_less c.loop-rest.rest.now _ c.after_number-rest.result.now c.after_number-rest.ensures c.after_number-rule_on.ensures
    (some_if c.loop-rest.rest.now c.is_empty.result c.is_empty.ensures c.loop-rest-test.true) in omega (arith, less)

pub loop-rest-preserved : goal.loop-rest-preserved
loop-rest-preserved c = read_on c.args.text.now c.loop-rest.picks c.loop-rest.rest.now _ c.after_number-rest.result.now c.in-Some.pick _ c.loop-rest.invariant
    (some_if c.loop-rest.rest.now c.is_empty.result c.is_empty.ensures c.loop-rest-test.true)
    (room_if (length c.loop-rest.picks) c.is_full.result c.is_full.ensures.value c.is_full.ensures.few c.if-is_full.false)
    (pick_some c.pick_with.result _ _ c.loop-rest.rest.now _ c.pick_with.ensures c.number_after.ensures c.after_number-rule_on.ensures c.number_after-in-loop-rest.ensures
    c.in-Some.pick c.in-Some.is)
    c.push.ensures c.after_number-rest.ensures c.after_number-rule_on.ensures
