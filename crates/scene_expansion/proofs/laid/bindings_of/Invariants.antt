use Rattle.std.proofs.Common.{◌≡◌, map, take}
use Rattle.program_calls.specs.composition.SeenParts.{seen_binding}
use Rattle.scene_texts.specs.expansion_laws.Laid.{bindings_laid}
use Rattle.scene_expansion.specs.Walks.{nodes_done}
use Rattle.scene_expansion.proofs.laid.bindings_of.Given as goal

abbrev pub invariant-loop-work : goal.invariant-loop-work
invariant-loop-work g l = map seen_binding l.bindings ≡ bindings_laid (nodes_done (g.L.WorkLayout.types l.layout) (take l.work-index l.works))
