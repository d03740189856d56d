use Rattle.std.proofs.Common.{◌≡◌, map, take}
use Rattle.program_calls.specs.composition.Expanded.{occurrence_of}
use Rattle.program_calls.specs.composition.SeenParts.{seen_occurrence}
use Rattle.program_calls.specs.composition.SeenScenes.{seen_scene}
use Rattle.scene_texts.specs.expansion_laws.Laid.{givens_laid}
use Rattle.scene_expansion.specs.Walks.{nodes_done}
use Rattle.scene_expansion.proofs.laid.occurrences_of.Given as goal

abbrev pub invariant-loop-work : goal.invariant-loop-work
invariant-loop-work g l = map seen_occurrence l.occurrences.items ≡ map (occurrence_of (seen_scene l.scene).bindings) (givens_laid (nodes_done (g.L.WorkLayout.types l.layout) (take l.work-index l.works)))
