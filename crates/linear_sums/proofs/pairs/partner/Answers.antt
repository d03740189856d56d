use Rattle.std.proofs.Common.{◌∙◌, ◌+◌, subst, length, arith}
use Rattle.linear_sums.specs.Twos.{NoPartner, HasPartner}
use Rattle.linear_sums.proofs.Pairing.{entry_at, get_entry, one_entry, partner_next, partner_none, partner_found}
use Rattle.linear_sums.proofs.pairs.partner.Goals as goal

pub pair_of-requires-clause-first : goal.pair_of-requires-clause-first
pair_of-requires-clause-first c = (c.requires.list.each c.args.place (entry_at c.args.list.now c.args.place) (get_entry c.args.list.now c.args.place c.requires.there)).0

pub pair_of-requires-clause-second : goal.pair_of-requires-clause-second
pair_of-requires-clause-second c = (c.requires.list.each c.loop-later.later (entry_at c.args.list.now c.loop-later.later) (get_entry c.args.list.now c.loop-later.later c.loop-later-test.true)).0

pub pair_of-requires-clause-before : goal.pair_of-requires-clause-before
pair_of-requires-clause-before c = c.requires.list.ascending c.args.place c.loop-later.later _ _ (get_entry c.args.list.now c.args.place c.requires.there)
    (get_entry c.args.list.now c.loop-later.later c.loop-later-test.true) c.loop-later.invariant.after

pub returns-in-Some-clause-found : goal.returns-in-Some-clause-found
returns-in-Some-clause-found c = λ c' at. subst (λ t. HasPartner c.args.flat.now c.args.list.now c.args.place t c.in-Some.facing)
    (one_entry c.args.list.now c.args.place (entry_at c.args.list.now c.args.place) c' (get_entry c.args.list.now c.args.place c.requires.there) at)
    (partner_found c.args.flat.now c.args.list.now c.args.place (entry_at c.args.list.now c.args.place) c.loop-later.later (entry_at c.args.list.now c.loop-later.later) c.in-Some.facing
    c.loop-later.invariant.after (get_entry c.args.list.now c.loop-later.later c.loop-later-test.true) c.loop-later.invariant.none c.in-Some.ensures.found)

pub loop-later-preserved : goal.loop-later-preserved
loop-later-preserved c = record {
  long = c.pair_of.ensures.slots ∙ c.loop-later.invariant.long;
  clear = c.pair_of.ensures.clear;
  after = omega (arith, c.loop-later.invariant.after);
  none = partner_next c.args.flat.now c.args.list.now c.args.place (entry_at c.args.list.now c.args.place) c.loop-later.later (c.loop-later.later + 1) (entry_at c.args.list.now c.loop-later.later)
      (omega arith) (get_entry c.args.list.now c.loop-later.later c.loop-later-test.true) c.loop-later.invariant.none c.in_default.ensures.found;
}

pub returns-clause-found : goal.returns-clause-found
returns-clause-found c = λ c' at. subst (λ t. NoPartner c.args.flat.now c.args.list.now c.args.place t (length c.args.list.now))
    (one_entry c.args.list.now c.args.place (entry_at c.args.list.now c.args.place) c' (get_entry c.args.list.now c.args.place c.requires.there) at)
    (partner_none c.args.flat.now c.args.list.now c.args.place (entry_at c.args.list.now c.args.place) c.loop-later.later (omega (arith, c.loop-later-test.false)) c.loop-later.invariant.none)
