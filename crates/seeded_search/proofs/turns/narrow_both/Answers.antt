use Rattle.std.proofs.Common.{◌≡◌, refl, subst, sym, inl, inr, ◌⊎◌, ℕ}
use Rattle.box_eval.specs.declared.cut.Side.{Side}
use Rattle.box_eval.specs.declared.cut.Side.TheVariants.{Low, High}
use Rattle.seeded_search.specs.declared.turns.Step.{Step}
use Rattle.seeded_search.specs.Runs.{Stepped}
use Rattle.seeded_search.proofs.Narrowings.{stepped_runs, steps_joined}
use Rattle.seeded_search.proofs.turns.narrow_both.Goals as goal

-- a side is low or high
sides : (slot : ℕ) (e : Side) (s : ℕ) → s ≡ slot → ((e ≡ Low) × (s ≡ slot)) ⊎ ((e ≡ High) × (s ≡ slot))
sides slot Low s at = inl (refl, at)
sides slot High s at = inr (refl, at)

pub narrow-requires : goal.narrow-requires
narrow-requires c = record {
  runs = stepped_runs c.args.task.now c.args.number (λ e s. (e ≡ Low) × (s ≡ c.args.slot)) c.narrow-first.result c.args.work.now c.args.trail.now c.args.ring.now c.narrow-first.new.work c.narrow-first.new.trail c.narrow-first.new.ring
      c.requires.runs c.in_default.not-Spent c.narrow-first.ensures;
  number = c.requires.number;
  slot = c.requires.slot;
}

pub returns : goal.returns
returns c =
    subst (λ (step : Step). Stepped c.args.task.now c.args.number (λ e s. s ≡ c.args.slot) step c.args.work.now c.args.trail.now c.args.ring.now c.narrow.new.work c.narrow.new.trail c.narrow.new.ring) (sym c.joined.ensures)
    (steps_joined c.args.task.now c.args.number (λ e s. (e ≡ Low) × (s ≡ c.args.slot)) (λ e s. (e ≡ High) × (s ≡ c.args.slot)) (λ e s. s ≡ c.args.slot) c.narrow-first.result c.narrow.result
    _ _ _ c.narrow-first.new.work c.narrow-first.new.trail c.narrow-first.new.ring _ _ _ (sides c.args.slot) c.in_default.not-Spent c.narrow-first.ensures c.narrow.ensures)
