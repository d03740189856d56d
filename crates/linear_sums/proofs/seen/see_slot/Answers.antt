use Rattle.std.proofs.Common.{◌≡◌, ◌∙◌, refl, sym, ap, subst, pos, slice_index_or, slice_set, arith, to_z, of_z}
use Rattle.std.proofs.lemmas.Int.{ints}
use Rattle.std.specs.Int.{w128}
use Rattle.box_eval.specs.Box.{value_of}
use Rattle.linear_sums.specs.Linear.{factor_of}
use Rattle.linear_sums.specs.Splits.{seen_with, IsSearched}
use Rattle.linear_sums.proofs.Gathering.{index_value}
use Rattle.linear_sums.proofs.Searching.{searched_slot, searched_none}
use Rattle.linear_sums.proofs.seen.see_slot.Goals as goal

pub returns-then-factor-eq0 : goal.returns-then-factor-eq0
returns-then-factor-eq0 c = searched_none c.args.sums.now c.args.slot c.args.seen (omega (arith, ints, c.if-factor-eq0.true, index_value c.args.sums.now c.args.slot))

pub returns-else-factor-eq0 : goal.returns-else-factor-eq0
returns-else-factor-eq0 c =
    let v : to_z w128 (of_z w128 (slice_index_or c.args.sums.now c.args.slot (pos 0))) ≡ value_of c.args.sums.now c.args.slot = omega (arith, ints, index_value c.args.sums.now c.args.slot) in
    subst (IsSearched c.args.sums.now (slice_set c.args.sums.now c.args.slot (pos 0)) (factor_of c.args.slot) c.args.seen)
    (sym (c.with_slot.ensures ∙ ap (seen_with c.args.seen c.args.slot) v))
    (searched_slot c.args.sums.now c.args.slot (value_of c.args.sums.now c.args.slot) c.args.seen c.requires refl (λ e. c.if-factor-eq0.false (omega (arith, ints, e, index_value c.args.sums.now c.args.slot))))
