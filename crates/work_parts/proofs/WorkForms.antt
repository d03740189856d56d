-- The counts of a work, by those of its sort.
use Rattle.std.proofs.Common.{◌≡◌, ◌∙◌, sym, ap, ℕ, List, length, map}
use Rattle.std.specs.Borrow.{Bor}
use Rattle.osc_base.specs.declared.path.Path.{Path}
use Rattle.dsl_tree.specs.declared.phases.CompNode.{CompNode}
use Rattle.dsl_tree.specs.declared.phases.InvokeNode.{InvokeNode}
use Rattle.dsl_tree.specs.declared.phases.WaitNode.{WaitNode}
use Rattle.dsl_tree.specs.Views.{argument_tree, expr_tree, part_tree}
use Rattle.expr_nodes.specs.type_heads.Types.{Types}
use Rattle.object_works.specs.scene_expansion.composition.declared.guard.Guard.{Guard}
use Rattle.object_works.specs.scene_expansion.composition.declared.part.Binding.{Binding as OwnBinding}
use Rattle.object_works.specs.scene_expansion.composition.declared.spot.ValueRange.{ValueRange}
use Rattle.object_works.specs.scene_expansion.composition.Expansion.{Calling}
use Rattle.object_works.specs.scene_expansion.composition.Scenes.{Binding}
use Rattle.object_works.specs.scene_expansion.composition.SeenParts.{seen_binding}
use Rattle.object_works.specs.scene_expansion.expansion_laws.WorkNodes.{node_of}
use Rattle.object_works.specs.scene_expansion.expansion_laws.Works as Works
use Rattle.object_works.specs.scene_expansion.declared.counts.Counts.{Counts}
use Rattle.object_works.specs.scene_expansion.declared.work.Call.{Call}
use Rattle.object_works.specs.scene_expansion.declared.work.Work.{Work as OwnWork}
use Rattle.object_works.specs.scene_expansion.AllCounts.{counts_of}
use Rattle.object_works.specs.scene_expansion.SeenWorks.{seen_call, seen_work}

module _ (ts : Types) (last : ℕ) (w : OwnWork) (c : Counts) where
  pub of_object : (steps : ℕ) (path : Path) (of : ℕ) (guards : List Guard) (bindings : List OwnBinding) → w ≡ OwnWork.Object steps path of guards bindings
      → ((path : Path) (guards : List Guard) (bindings : List Binding) → c ≡ counts_of last (node_of ts (Works.Object steps path of guards bindings)))
      → c ≡ counts_of last (node_of ts (seen_work w))
  of_object steps path of guards bindings is own = own path guards (map seen_binding bindings) ∙ ap (λ (v : OwnWork). counts_of last (node_of ts (seen_work v))) (sym is)

  pub of_value : (path : Path) (guards : List Guard) (range : ValueRange) → w ≡ OwnWork.Value path guards range
      → ((ts : Types) (path : Path) (guards : List Guard) → c ≡ counts_of last (node_of ts (Works.Value path guards range)))
      → c ≡ counts_of last (node_of ts (seen_work w))
  of_value path guards range is own = own ts path guards ∙ ap (λ (v : OwnWork). counts_of last (node_of ts (seen_work v))) (sym is)

  pub of_composition : (call : Call) (node : Bor CompNode) → w ≡ OwnWork.Comp call node
      → ((ts : Types) (call : Calling) (count : ℕ) → c ≡ counts_of last (node_of ts (Works.Comp call node.now.kind (map argument_tree node.now.arguments) count)))
      → c ≡ counts_of last (node_of ts (seen_work w))
  of_composition call node is own = own ts (seen_call call) (length node.now.members) ∙ ap (λ (v : OwnWork). counts_of last (node_of ts (seen_work v))) (sym is)

  pub of_invocation : (steps : ℕ) (call : Call) (node : Bor InvokeNode) (of : ℕ) (bindings : List OwnBinding) → w ≡ OwnWork.Invoke steps call node of bindings
      → ((steps : ℕ) (call : Calling) (bindings : List Binding)
      → c ≡ counts_of last (node_of ts (Works.Invoke steps call node.now.head node.now.names (map argument_tree node.now.arguments) (map part_tree node.now.parts) of bindings)))
      → c ≡ counts_of last (node_of ts (seen_work w))
  of_invocation steps call node of bindings is own =
      own steps (seen_call call) (map seen_binding bindings) ∙ ap (λ (v : OwnWork). counts_of last (node_of ts (seen_work v))) (sym is)

  pub of_wait : (call : Call) (node : Bor WaitNode) → w ≡ OwnWork.Wait call node
      → ((ts : Types) (call : Calling) → c ≡ counts_of last (node_of ts (Works.Wait call (expr_tree node.now.elapsed))))
      → c ≡ counts_of last (node_of ts (seen_work w))
  of_wait call node is own = own ts (seen_call call) ∙ ap (λ (v : OwnWork). counts_of last (node_of ts (seen_work v))) (sym is)
