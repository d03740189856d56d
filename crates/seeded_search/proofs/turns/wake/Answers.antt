use Rattle.std.proofs.Common.{◌≡◌, ◌∙◌, ap, arith, get_or, length, [], List, ℕ}
use Rattle.seeded_search.specs.Listed.{rules_at}
use Rattle.seeded_search.proofs.Wakings.{below_at, list_at}
use Rattle.seeded_search.proofs.turns.wake.Goals as goal

pub wake_one-requires-clause-ring : goal.wake_one-requires-clause-ring
wake_one-requires-clause-ring c =
    let items : c.as_slice-number-items.result.now ≡ rules_at c.args.lists.now c.args.slot =
    c.as_slice-number-items.ensures ∙ (c.index.ensures ∙ list_at c.args.lists.now.rules.items c.args.slot c.index.result.now [] c.requires.slot) in
    omega (
      arith,
      below_at c.args.ring.now.bound (rules_at c.args.lists.now c.args.slot) c.loop-number.number-index c.requires.ring (omega (arith, c.loop-number-test.true, ap (λ (xs : List ℕ). length xs) items)),
      ap (λ (xs : List ℕ). get_or xs c.loop-number.number-index 0) items,
      c.loop-number.invariant.0,
    )
