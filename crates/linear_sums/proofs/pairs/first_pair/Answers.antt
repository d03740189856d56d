use Rattle.std.proofs.Common.{◌∙◌, ◌+◌, arith}
use Rattle.linear_sums.proofs.Pairing.{entry_at, get_entry, paired_next, none_facing, first_found}
use Rattle.linear_sums.proofs.pairs.first_pair.Goals as goal

pub returns-in-Some : goal.returns-in-Some
returns-in-Some c =
    let at = get_entry c.args.list.now c.loop-place.place c.loop-place-test.true in
    first_found c.args.flat.now c.args.list.now c.requires.list c.loop-place.place (entry_at c.args.list.now c.loop-place.place) at c.loop-place.invariant.none c.in-Some.facing
    (c.in-Some.ensures.found (entry_at c.args.list.now c.loop-place.place) at)

pub loop-place-preserved : goal.loop-place-preserved
loop-place-preserved c =
    let at = get_entry c.args.list.now c.loop-place.place c.loop-place-test.true in
    record {
      long = c.partner.ensures.slots ∙ c.loop-place.invariant.long;
      clear = c.partner.ensures.clear;
      none = paired_next c.args.flat.now c.args.list.now c.loop-place.place (c.loop-place.place + 1) (entry_at c.args.list.now c.loop-place.place) (omega arith) at c.loop-place.invariant.none
          (c.in_default.ensures.found (entry_at c.args.list.now c.loop-place.place) at);
    }

pub returns : goal.returns
returns c = none_facing c.args.flat.now c.args.list.now c.requires.list c.loop-place.place (omega (arith, c.loop-place-test.false)) c.loop-place.invariant.none
