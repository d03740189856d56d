use Rattle.std.proofs.Common.{◌≡◌, map, take}
use Rattle.program_calls.specs.composition.SeenParts.{seen_spot}
use Rattle.scene_texts.specs.expansion_laws.Laid.{spots_laid}
use Rattle.scene_expansion.specs.Walks.{nodes_done}
use Rattle.scene_expansion.proofs.laid.spots_of.Given as goal

abbrev pub invariant-loop-work : goal.invariant-loop-work
invariant-loop-work g l = map seen_spot l.spots ≡ spots_laid (nodes_done (g.L.WorkLayout.types l.layout) (take l.work-index l.works))
