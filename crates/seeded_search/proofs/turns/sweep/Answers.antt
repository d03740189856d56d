use Rattle.std.proofs.Common.{◌≡◌, ◌∙◌, ap, subst, sym, ℕ, ◌+◌, ◌<◌, List, [], length, get_or, take, true, arith}
use Rattle.std.proofs.Math.Seq.{take-length}
use Rattle.wake_ring.specs.Queue.{is_in}
use Rattle.seeded_search.specs.declared.turns.Step.{Step}
use Rattle.seeded_search.specs.Listed.{slots_at}
use Rattle.seeded_search.specs.Runs.{Stepped}
use Rattle.seeded_search.proofs.Narrowings.{stepped_runs, steps_joined}
use Rattle.seeded_search.proofs.Wakings.{list_at, in_longer}
use Rattle.seeded_search.proofs.turns.sweep.Goals as goal

pub narrow_both-requires-clause-runs : goal.narrow_both-requires-clause-runs
narrow_both-requires-clause-runs c = stepped_runs c.args.task.now c.args.number (λ e s. is_in s (take c.loop-slot.slot-index (slots_at c.args.task.now.lists.now c.args.number)) ≡ true) c.loop-slot.step
    c.args.work.now c.args.trail.now c.args.ring.now c.loop-slot.work c.loop-slot.trail c.loop-slot.ring c.requires.runs c.loop-slot.invariant.1 c.loop-slot.invariant.0

pub loop-slot-preserved : goal.loop-slot-preserved
loop-slot-preserved c =
    let slots = slots_at c.args.task.now.lists.now c.args.number in
    let items : c.as_slice-slot-items.result.now ≡ slots = c.as_slice-slot-items.ensures ∙ (c.index.ensures ∙ list_at c.args.task.now.lists.now.slots.items c.args.number c.index.result.now [] (omega (arith, c.requires.number, c.requires.runs.roomy.listed.slots.long))) in
    let less : c.loop-slot.slot-index < length slots = omega (arith, c.loop-slot-test.true, ap (λ (xs : List ℕ). length xs) items) in (
      subst (λ (step : Step). Stepped c.args.task.now c.args.number (λ e s. is_in s (take (c.loop-slot.slot-index + 1) slots) ≡ true) step c.args.work.now c.args.trail.now c.args.ring.now c.narrow_both.new.work c.narrow_both.new.trail c.narrow_both.new.ring) (sym c.joined-step.ensures)
          (steps_joined c.args.task.now c.args.number (λ e s. is_in s (take c.loop-slot.slot-index slots) ≡ true) (λ e s. s ≡ get_or c.as_slice-slot-items.result.now c.loop-slot.slot-index 0) (λ e s. is_in s (take (c.loop-slot.slot-index + 1) slots) ≡ true) c.loop-slot.step c.narrow_both.result
          _ _ _ c.loop-slot.work c.loop-slot.trail c.loop-slot.ring _ _ _ (λ e s at. in_longer slots c.loop-slot.slot-index (get_or c.as_slice-slot-items.result.now c.loop-slot.slot-index 0) s less (ap (λ (xs : List ℕ). get_or xs c.loop-slot.slot-index 0) (sym items)) at)
          c.loop-slot.invariant.1 c.loop-slot.invariant.0 c.narrow_both.ensures),
      c.in_default.not-Spent,
    )

pub returns : goal.returns
returns c =
    let slots = slots_at c.args.task.now.lists.now c.args.number in
    let items : c.as_slice-slot-items.result.now ≡ slots = c.as_slice-slot-items.ensures ∙ (c.index.ensures ∙ list_at c.args.task.now.lists.now.slots.items c.args.number c.index.result.now [] (omega (arith, c.requires.number, c.requires.runs.roomy.listed.slots.long))) in
    let index : c.loop-slot.slot-index ≡ length slots = omega (arith, c.loop-slot-test.false, c.loop-slot.auto.slot-index-end, ap (λ (xs : List ℕ). length xs) items) in
    subst (λ (xs : List ℕ). Stepped c.args.task.now c.args.number (λ e s. is_in s xs ≡ true) c.loop-slot.step c.args.work.now c.args.trail.now c.args.ring.now c.loop-slot.work c.loop-slot.trail c.loop-slot.ring)
    (ap (λ k. take k slots) index ∙ take-length slots) c.loop-slot.invariant.0
