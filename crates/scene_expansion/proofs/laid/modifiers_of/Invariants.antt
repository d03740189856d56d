use Rattle.std.proofs.Common.{◌≡◌, map, take}
use Rattle.program_calls.specs.composition.SeenParts.{seen_modifier}
use Rattle.program_calls.specs.composition.SeenScenes.{seen_scene}
use Rattle.scene_texts.specs.expansion_laws.Laid.{modifiers_laid}
use Rattle.scene_expansion.specs.Walks.{modifier_at, nodes_done}
use Rattle.scene_expansion.proofs.laid.modifiers_of.Given as goal

abbrev pub invariant-loop-work : goal.invariant-loop-work
invariant-loop-work g l = map seen_modifier l.modifiers.items ≡ map (modifier_at (seen_scene l.scene).bindings) (modifiers_laid (nodes_done (g.L.WorkLayout.types l.layout) (take l.work-index l.works)))
