use Rattle.std.proofs.Common.{◌∙◌, ◌+◌, refl, sym, subst, arith}
use Rattle.linear_sums.specs.Twos.{IsListed}
use Rattle.linear_sums.proofs.Listing.{list_skip, list_more}
use Rattle.linear_sums.proofs.two_slots.listed.Goals.{in-Some+in_ok-push, in_default}
use Rattle.linear_sums.proofs.two_slots.listed.Goals as goal

pub loop-number-preserved : goal.loop-number-preserved
loop-number-preserved c = record {
  long = c.two_slots.ensures.slots ∙ c.loop-number.invariant.long;
  clear = c.two_slots.ensures.clear;
  list = elim c.match-two_slots.branch [
    | in-Some+in_ok-push w ↦ subst (IsListed c.args.flat.now (c.loop-number.number + 1)) (rw w.list-is (sym w.in_ok-push.ensures.items))
        (list_more c.args.flat.now c.loop-number.number (c.loop-number.number + 1) c.loop-number.list.items (omega arith) c.loop-number.invariant.list w.in-Some.found
        (w.in-Some.ensures.found.0) (w.in-Some.ensures.found.1))
    | in_default w ↦ subst (IsListed c.args.flat.now (c.loop-number.number + 1)) (rw w.list-is refl)
        (list_skip c.args.flat.now c.loop-number.number (c.loop-number.number + 1) c.loop-number.list.items (omega arith) c.loop-number.invariant.list w.in_default.ensures.found)
  ];
}
