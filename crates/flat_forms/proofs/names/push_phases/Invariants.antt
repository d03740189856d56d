use Rattle.std.proofs.Common.{◌≡◌, ◌++◌, map, take}
use Rattle.osc_base.specs.declared.listing.RuleName.{RuleName}
use Rattle.scene_rules.specs.composition.declared.spot.PhaseSpot.{PhaseSpot}
use Rattle.flat_forms.proofs.names.push_phases.Given as goal

abbrev pub invariant-phases : goal.invariant-phases
invariant-phases l = l.names ≡ l.fn.names ++ map (λ (p : PhaseSpot). RuleName.Arranged p.path) (take l.phase-index l.phases)
