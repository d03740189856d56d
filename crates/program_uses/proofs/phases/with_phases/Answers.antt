use Rattle.std.proofs.Common.{◌∙◌, ap, flat_map, map, refl}
use Rattle.osc_base.specs.FaultRows.{first_from}
use Rattle.program_calls.specs.PlacedPhases.{seen_phase}
use Rattle.program_uses.specs.PhaseRows.{placed_rows}
use Rattle.program_uses.proofs.RowSteps.{each_end, each_more}
use Rattle.program_uses.proofs.phases.with_phases.Goals as goal

pub loop-placed-preserved : goal.loop-placed-preserved
loop-placed-preserved c = λ ts told labelled.
    let rows = placed_rows ts c.args.holder in
    let ps = c.as_slice-placed-items.result.now in
    each_more rows seen_phase ps ps c.loop-placed.placed-index refl c.placed-item.result
    (first_from c.args.first (flat_map rows (map seen_phase ps))) c.loop-placed.fault c.in_ok-fault.fault c.loop-placed-test.true c.placed-item.is
    (c.in_ok-fault.ensures ts told labelled) (c.loop-placed.invariant ts told labelled)

pub returns : goal.returns
returns c = λ ts told labelled.
    let rows = placed_rows ts c.args.holder in
    let ps = c.as_slice-placed-items.result.now in
    each_end rows seen_phase ps ps c.loop-placed.placed-index refl
    (first_from c.args.first (flat_map rows (map seen_phase ps))) c.loop-placed.fault c.loop-placed-test.false (c.loop-placed.invariant ts told labelled)
    ∙ ap (λ xs. first_from c.args.first (flat_map rows xs)) (ap (map seen_phase) c.as_slice-placed-items.ensures.value ∙ c.in_ok-phases.ensures)
