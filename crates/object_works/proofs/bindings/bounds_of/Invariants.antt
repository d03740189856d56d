use Rattle.std.proofs.Common.{◌≡◌, ◌++◌, drop, map}
use Rattle.scene_expansion.specs.composition.SeenParts.{seen_binding}
use Rattle.scene_expansion.specs.scene_texts.Moving.{seen_bound}
use Rattle.object_works.proofs.bindings.bounds_of.Given as goal

abbrev pub invariant-loop-binding : goal.invariant-loop-binding
invariant-loop-binding l = map seen_bound l.bounds ++ map seen_binding (drop l.binding-index l.bindings) ≡ map seen_binding l.bindings
