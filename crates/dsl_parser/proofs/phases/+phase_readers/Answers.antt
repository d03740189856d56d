use Rattle.std.proofs.Common.{◌≡◌, ◌≢◌, Err, refl, sym, ◌∙◌, arith}
use Rattle.dsl_cursor.specs.Words.{Memory, Forest, Part, read}
use Rattle.dsl_parser.specs.Words.{Phase, phase_tree, phases_rest}
use Rattle.dsl_tree.specs.WrittenPhases as written
use Rattle.dsl_cursor.proofs.{Loops.step, Loops.finish, Loops.raise, Loops.raise_gives, RowSteps.optional_none, RowSteps.part_grows, RowSteps.part_stops}
use Rattle.dsl_parser.proofs.StartForms.{block_stops, composed_read, composition_stops}
use Rattle.dsl_parser.proofs.phases.+phase_readers.Goals as goal

abbrev seen_phase : Phase → Forest
seen_phase p = written.phase (phase_tree p)

pub phase-returns-in_err-head : goal.phase-returns-in_err-head
phase-returns-in_err-head t c =
    raise_gives seen_phase (read Part.Phase c.args.tokens.now) _ _ _ c.from_residual-in_err-head.ensures (composition_stops _ _ _ _ (rw c.in-Composition.is at c.in_ok-phase.ensures) c.in_err-head.ensures)

pub phase-returns-in_err-members : goal.phase-returns-in_err-members
phase-returns-in_err-members t c =
    raise_gives seen_phase (read Part.Phase c.args.tokens.now) _ _ _ c.from_residual-in_err-members.ensures
    (composition_stops _ _ _ _ (rw c.in-Composition.is at c.in_ok-phase.ensures) (block_stops _ _ _ _ c.in_ok-head.ensures c.in_err-members.ensures))

pub phase-returns : goal.phase-returns
phase-returns t c = composed_read _ _ _ _ _ _ _ _ (rw c.in-Composition.is at c.in_ok-phase.ensures) c.in_ok-head.ensures c.in_ok-members.ensures c.composed.ensures

pub phases_from-returns-in_err-item-clause-err : goal.phases_from-returns-in_err-item-clause-err
phases_from-returns-in_err-item-clause-err t c =
    raise _ _ (λ e. e ≢ Memory → read Part.PhasesTail c.args.tokens.now ≡ Err e) c.from_residual-in_err-item.ensures
    (λ some. c.phases.invariant.0.fails _ (part_stops Part.PhasesTail Part.Phase _ _ refl refl refl (sym c.begins_phase.ensures ∙ c.phases-test.true) (c.in_err-item.ensures some)))

pub phases_from-phases-preserved : goal.phases_from-phases-preserved
phases_from-phases-preserved t c =
    let (less, reads, fails) = part_grows Part.PhasesTail Part.Phase phases_rest _ _ _ _ refl refl refl refl (λ others. refl) (sym c.begins_phase.ensures ∙ c.phases-test.true) c.in_ok-item.ensures in
    (step _ _ _ _ _ _ _ _ _ c.phases.invariant.0 (less, reads, fails) c.in_ok-push.ensures.ok, omega (arith, less, c.phases.invariant.1))

pub phases_from-returns-clause-ok : goal.phases_from-returns-clause-ok
phases_from-returns-clause-ok t c = finish _ _ _ _ _ _ _ c.phases.invariant.0 (optional_none Part.PhasesTail _ refl refl (sym c.begins_phase.ensures ∙ c.phases-test.false))
