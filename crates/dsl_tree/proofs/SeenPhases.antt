-- The tree of each phase, in terms of its parts' trees.
use Rattle.std.proofs.Common.{◌≡◌, ◌∙◌, map}
use Rattle.dsl_tree.specs.declared.phases.Phase.{Phase}
use Rattle.dsl_tree.specs.declared.phases.CompNode.{CompNode}
use Rattle.dsl_tree.specs.declared.phases.InvokeNode.{InvokeNode}
use Rattle.dsl_tree.specs.declared.phases.WaitNode.{WaitNode}
use Rattle.dsl_tree.specs.declared.phases.Phase.TheOpen.{Phase-F}
use Rattle.dsl_tree.specs.declared.phases.Phase.TheFolds.{fold-roll-Phase, fold-roll-CompNode}
use Rattle.dsl_tree.specs.declared.phases.Phase.TheViews
use Rattle.dsl_tree.specs.PhaseTree.{PhaseTree, row_of}
use Rattle.dsl_tree.specs.Views.{phase_step, comp_step, phase_tree, argument_tree, part_tree, expr_tree}

pub seen_comp : (c : CompNode) → phase_tree (TheViews.Comp c) ≡ PhaseTree.Comp c.label c.place c.kind (map argument_tree c.arguments) (row_of (map phase_tree c.members))
unfolding Rattle.dsl_tree.specs.declared.phases.Phase.TheViews.roll-Phase denote.Hole.Carrier.roll
seen_comp c = fold-roll-Phase PhaseTree PhaseTree phase_step comp_step (Phase-F.Comp c) ∙ fold-roll-CompNode PhaseTree PhaseTree phase_step comp_step (record { label = c.label; place = c.place; kind = c.kind; arguments = c.arguments; members = c.members })

pub seen_invoke : (i : InvokeNode) → phase_tree (Phase.Invoke i) ≡ PhaseTree.Invoke i.label i.head i.names (map argument_tree i.arguments) (map part_tree i.parts)
unfolding Rattle.dsl_tree.specs.declared.phases.Phase.TheViews.roll-Phase denote.Hole.Carrier.roll
seen_invoke i = fold-roll-Phase PhaseTree PhaseTree phase_step comp_step (Phase-F.Invoke i)

pub seen_wait : (w : WaitNode) → phase_tree (Phase.Wait w) ≡ PhaseTree.Wait w.label w.place (expr_tree w.elapsed)
unfolding Rattle.dsl_tree.specs.declared.phases.Phase.TheViews.roll-Phase denote.Hole.Carrier.roll
seen_wait w = fold-roll-Phase PhaseTree PhaseTree phase_step comp_step (Phase-F.Wait w)
