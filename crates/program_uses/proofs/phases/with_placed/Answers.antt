use Rattle.std.proofs.Common.{◌≡◌, ◌∙◌, ap, map}
use Rattle.osc_base.specs.FaultRows.{first_from}
use Rattle.dsl_tree.specs.Views.{phase_tree}
use Rattle.expr_nodes.specs.type_heads.Types.{Types}
use Rattle.expr_nodes.specs.SeenNames.{seen_scope}
use Rattle.program_calls.specs.composition.Uses.{phase_rows}
use Rattle.program_calls.specs.PlacedPhases.{seen_turn}
use Rattle.program_calls.specs.SeenLabels.{do_labels, seen_labels}
use Rattle.program_uses.specs.PhaseRows.{phase_in}
use Rattle.program_uses.specs.SeenTexts.{Tells}
use Rattle.program_uses.proofs.PhaseSteps.{placed_law}
use Rattle.program_uses.proofs.RowSteps.{if_ok}
use Rattle.program_uses.proofs.phases.with_placed.Goals as goal

pub returns : goal.returns
returns c =
    let tree = phase_tree c.args.placed.now.phase.now in
    if_ok (λ f. (ts : Types) → Tells ts c.args.types.now c.args.texts.now → f ≡ first_from c.args.first (phase_in ts (seen_scope c.scope_at-scope.result) tree))
    (λ f. (ts : Types) → Tells ts c.args.types.now c.args.texts.now → seen_labels c.args.labels.now ≡ do_labels ts c.args.holder →
    f ≡ first_from c.args.first (phase_rows ts c.args.holder (map seen_turn c.args.placed.now.place.way) tree))
    (λ f is ts told labelled. is ts told ∙ placed_law ts c.args.first c.args.holder (map seen_turn c.as_slice-way.result.now) (map seen_turn c.args.placed.now.place.way)
    (seen_scope c.scope_at-scope.result) tree (ap (map seen_turn) c.as_slice-way.ensures) (c.scope_at-scope.ensures ts labelled))
    c.with_phase.result c.with_phase.ensures
