use Rattle.std.proofs.Common.{◌≡◌, ◌++◌, drop, flat_map, map}
use Rattle.scene_expansion.specs.composition.SeenParts.{seen_binding}
use Rattle.scene_expansion.specs.program_calls.PlacedPhases.{seen_phase}
use Rattle.program_texts.specs.program_fields.SeenFields.{seen_do}
use Rattle.program_texts.specs.SeenTexts.{types_in}
use Rattle.scene_expansion.specs.SeenWorks.{seen_work}
use Rattle.object_works.specs.Phases.{phase_here_works}
use Rattle.object_works.proofs.calls.push_phases.Given as goal

abbrev pub invariant-loop-placed : goal.invariant-loop-placed
invariant-loop-placed l =
    map seen_work l.into.items ++ flat_map (phase_here_works l.within.steps (types_in l.texts) (map seen_binding l.within.bindings.now) l.within.object.now l.within.guards.now (seen_do l.behaviour)) (map seen_phase (drop l.placed-index l.phases))
    ≡ map seen_work l.fn.into.items ++ flat_map (phase_here_works l.within.steps (types_in l.texts) (map seen_binding l.within.bindings.now) l.within.object.now l.within.guards.now (seen_do l.behaviour)) (map seen_phase l.phases)
