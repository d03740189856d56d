use Rattle.std.proofs.Common.{[], drop, map}
use Rattle.osc_base.specs.FaultRows.{first_from}
use Rattle.dsl_tree.specs.Views.{argument_tree}
use Rattle.expr_nodes.specs.SeenNames.{seen_scope}
use Rattle.program_calls.specs.composition.Uses.{composition_rows}
use Rattle.program_uses.proofs.CompositionSteps.{CompositionLeft}
use Rattle.program_uses.proofs.compositions.with_composition.Given as goal

abbrev pub invariant-loop-argument : goal.invariant-loop-argument
invariant-loop-argument l = CompositionLeft l.types.table (seen_scope l.scope) l.kind
    (first_from l.fn.first (composition_rows l.types.table (seen_scope l.scope) l.kind [] (map argument_tree l.arguments)))
    l.met l.fault (map argument_tree (drop l.argument-index l.arguments))
