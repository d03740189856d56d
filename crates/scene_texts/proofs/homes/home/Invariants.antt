use Rattle.std.proofs.Common.{◌≡◌, length, map}
use Rattle.dsl_tree.specs.osc_base.Paths.{path_of}
use Rattle.expansion_laws.specs.composition.Homes.{home}
use Rattle.scene_texts.specs.Moving.{seen_bound}
use Rattle.scene_texts.proofs.homes.home.Given as goal

abbrev pub invariant-loop-rest : goal.invariant-loop-rest
invariant-loop-rest l = home (map seen_bound l.rest) (path_of l.steps) ≡ home (map seen_bound l.homes) (path_of l.steps)

abbrev pub decreases-loop-rest : goal.decreases-loop-rest
decreases-loop-rest l = length l.rest
