use Rattle.std.proofs.Common.{sym, subst, arith}
use Rattle.box_eval.specs.Box.{value_of}
use Rattle.linear_sums.specs.Linear.{RuleForm, form_of_rule}
use Rattle.linear_sums.specs.Splits.{Splits}
use Rattle.linear_sums.proofs.Weights.{least_rule_weight}
use Rattle.linear_sums.proofs.Found.{found_rule, light_rule}
use Rattle.linear_sums.proofs.Listing.{seen_splits, seen_clear}
use Rattle.linear_sums.proofs.Verdicts.{clear_room}
use Rattle.linear_sums.proofs.two_slots.slots_seen.Goals as goal

pub gather_rule-requires-clause-slots : goal.gather_rule-requires-clause-slots
gather_rule-requires-clause-slots c =
    let found = found_rule c.args.flat.now c.args.number c.as_slice.result.now c.index-as_slice-number.result c.requires.flat c.requires.there c.as_slice.ensures c.index-as_slice-number.is in
    omega (arith, found.slots, c.requires.slots)

pub gather_rule-requires-clause-weight : goal.gather_rule-requires-clause-weight
gather_rule-requires-clause-weight c =
    let found = found_rule c.args.flat.now c.args.number c.as_slice.result.now c.index-as_slice-number.result c.requires.flat c.requires.there c.as_slice.ensures c.index-as_slice-number.is in
    omega (arith, light_rule c.args.flat.now c.args.number c.index-as_slice-number.result found c.requires.linear, least_rule_weight c.args.flat.now.bounds.pairs c.index-as_slice-number.result)

pub gather_rule-requires-clause-room : goal.gather_rule-requires-clause-room
gather_rule-requires-clause-room c =
    let found = found_rule c.args.flat.now c.args.number c.as_slice.result.now c.index-as_slice-number.result c.requires.flat c.requires.there c.as_slice.ensures c.index-as_slice-number.is in
    clear_room c.args.sums.now _ c.requires.clear
    (omega (arith, light_rule c.args.flat.now c.args.number c.index-as_slice-number.result found c.requires.linear, least_rule_weight c.args.flat.now.bounds.pairs c.index-as_slice-number.result))

pub see_rule-requires : goal.see_rule-requires
see_rule-requires c =
    let found = found_rule c.args.flat.now c.args.number c.as_slice.result.now c.index-as_slice-number.result c.requires.flat c.requires.there c.as_slice.ensures c.index-as_slice-number.is in
    omega (arith, found.slots, c.requires.slots, c.gather_rule.ensures.as_long)

pub returns-clause-splits : goal.returns-clause-splits
returns-clause-splits c =
    let found = found_rule c.args.flat.now c.args.number c.as_slice.result.now c.index-as_slice-number.result c.requires.flat c.requires.there c.as_slice.ensures c.index-as_slice-number.is in
    subst (λ (f : RuleForm). Splits f.factor (value_of c.see_rule.new.sums) c.see_rule.result) (sym found.form)
    (seen_splits c.args.sums.now c.gather_rule.new.sums c.see_rule.new.sums (form_of_rule c.index-as_slice-number.result).factor c.see_rule.result c.requires.clear c.gather_rule.ensures c.see_rule.ensures)

pub returns-clause-clear : goal.returns-clause-clear
returns-clause-clear c = seen_clear c.args.sums.now c.gather_rule.new.sums c.see_rule.new.sums (form_of_rule c.index-as_slice-number.result).factor c.see_rule.result c.requires.clear c.gather_rule.ensures c.see_rule.ensures
