use Rattle.std.proofs.Common.{◌∙◌, sym, ap, ℤ, pos, int_lt, arith}
use Rattle.std.proofs.lemmas.Int.{ints}
use Rattle.linear_sums.specs.Linear.{sum_form, least_in}
use Rattle.linear_sums.proofs.Verdicts.{clear_room, taken_clear, taken_least, sum_small, least_small, same_test, wrapped_small}
use Rattle.linear_sums.proofs.summing.false_on.Goals as goal

pub gather_picks-requires-clause-room : goal.gather_picks-requires-clause-room
gather_picks-requires-clause-room g c = clear_room c.args.sums.now _ c.requires.clear c.requires.weight

pub take_picks-least-requires-clause-slots : goal.take_picks-least-requires-clause-slots
take_picks-least-requires-clause-slots g c = c.requires.inside.as_long

pub take_picks-least-requires-clause-long : goal.take_picks-least-requires-clause-long
take_picks-least-requires-clause-long g c = c.gather_picks.ensures.as_long ∙ c.requires.slots ∙ sym c.requires.inside.as_long

pub take_picks-least-requires-clause-small : goal.take_picks-least-requires-clause-small
take_picks-least-requires-clause-small g c = sum_small c.args.flat.now c.args.picks.now (g.E.Ends.ends c.args.ends.now) c.args.sums.now c.gather_picks.new.sums
    c.requires.is_box c.requires.inside c.requires.clear c.gather_picks.ensures c.requires.weight

pub overflow_add-result : goal.overflow_add-result
overflow_add-result g c =
    let ends = g.E.Ends.ends c.args.ends.now in
    let s = sum_small c.args.flat.now c.args.picks.now ends c.args.sums.now c.gather_picks.new.sums c.requires.is_box c.requires.inside c.requires.clear c.gather_picks.ensures c.requires.weight in
    let l = least_small ends c.gather_picks.new.sums _ _ c.take_picks-least.result c.take_picks-least.ensures s in
    omega (arith, ints, l, c.constant_of_picks-constant.ensures.small)

pub returns-clause-verdict : goal.returns-clause-verdict
returns-clause-verdict g c =
    let ends = g.E.Ends.ends c.args.ends.now in
    let form = sum_form c.args.flat.now.bounds.pairs c.args.flat.now.rules c.args.picks.now in
    let s = sum_small c.args.flat.now c.args.picks.now ends c.args.sums.now c.gather_picks.new.sums c.requires.is_box c.requires.inside c.requires.clear c.gather_picks.ensures c.requires.weight in
    let l = least_small ends c.gather_picks.new.sums _ _ c.take_picks-least.result c.take_picks-least.ensures s in
    ap (λ (n : ℤ). int_lt (pos 0) n) (wrapped_small c.constant_of_picks-constant.result c.take_picks-least.result c.constant_of_picks-constant.ensures.small l)
    ∙ same_test form.constant form.gap (least_in form.factor ends) _ _ c.constant_of_picks-constant.ensures.value
    (taken_least c.args.sums.now c.gather_picks.new.sums form.factor c.requires.clear c.gather_picks.ensures ends c.take_picks-least.new.sums _ c.take_picks-least.ensures)

pub returns-clause-slots : goal.returns-clause-slots
returns-clause-slots g c = c.take_picks-least.ensures.as_long ∙ c.gather_picks.ensures.as_long

pub returns-clause-clear : goal.returns-clause-clear
returns-clause-clear g c = taken_clear c.args.sums.now c.gather_picks.new.sums _ c.requires.clear c.gather_picks.ensures (g.E.Ends.ends c.args.ends.now) c.take_picks-least.new.sums _ c.take_picks-least.ensures
