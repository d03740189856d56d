use Rattle.std.proofs.Common.{◌≡◌, ◌<◌, ◌∙◌, ap, arith, length, get_or, [], List, ℕ}
use Rattle.seeded_search.specs.Listed.{rules_at}
use Rattle.seeded_search.proofs.Wakings.{list_at, below_at}
use Rattle.seeded_search.proofs.retiring.retire.Goals as goal

pub retire_one-requires-clause-number : goal.retire_one-requires-clause-number
retire_one-requires-clause-number c =
    let listed = c.requires.runs.roomy.listed.rules in
    let there : c.args.slot < length c.args.task.now.flat.now.bounds.pairs = omega (arith, c.requires.slot, c.requires.runs.searching.inside.as_long) in
    let items : c.as_slice-number-items.result.now ≡ rules_at c.args.task.now.lists.now c.args.slot =
    c.as_slice-number-items.ensures ∙ (c.index.ensures ∙ list_at c.args.task.now.lists.now.rules.items c.args.slot c.index.result.now [] (omega (arith, there, listed.long))) in
    omega (
      arith,
      below_at (length c.args.task.now.flat.now.rules) (rules_at c.args.task.now.lists.now c.args.slot) c.loop-number.number-index (listed.each c.args.slot there).below
          (omega (arith, c.loop-number-test.true, ap (λ (xs : List ℕ). length xs) items)),
      ap (λ (xs : List ℕ). get_or xs c.loop-number.number-index 0) items,
    )
