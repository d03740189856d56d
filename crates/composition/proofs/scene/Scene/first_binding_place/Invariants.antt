use Rattle.std.proofs.Common.{◌≡◌, take}
use Rattle.keep_rules.specs.path_index.Places.{first_place}
use Rattle.composition.specs.SeenHomes.{leads}
use Rattle.composition.proofs.scene.Scene.first_binding_place.Given as goal

abbrev pub invariant-loop-step : goal.invariant-loop-step
invariant-loop-step l = (l.prefix.steps ≡ take l.step-index l.step-items) × (l.first ≡ first_place (leads (take l.step-index l.step-items)) 0 l.fn.self.bindings)
