-- The scenes of programs without faults are sound.
use Rattle.std.proofs.Common.{◌≡◌, ℕ, List, Option, Some, None, false}
use Rattle.name_scope.specs.FileNumbers.{AddedFile}
use Rattle.program_scenes.specs.type_heads.DeclaredTypes.{program_of}
use Rattle.loaded_programs.specs.composition.declared.setting.Setting.{Setting}
use Rattle.loaded_programs.specs.composition.Expanded.{scene}
use Rattle.loaded_programs.specs.composition.SceneFaults.{is_too_large, named_scenario}
use Rattle.loaded_programs.specs.composition.StaticFaults.{declaration_fault}
use Rattle.program_scenes.specs.named_scenario.Naming.{fault_in, scenario_in, types_in}
use Rattle.loaded_programs.proofs.of_checkable_scenes.SceneParts.{scenes_are_limited, scenes_are_expanded, scenes_are_checkable}
use Rattle.loaded_programs.proofs.LoadedPrograms.{loads_are_loaded_programs}
use Rattle.source_scenes.specs.FoundScenes.{IsKnown}
use Rattle.source_scenes.specs.SoundScenes.{IsSoundScene}

-- its declarations have no fault
sound_program : (program : List AddedFile) → fault_in program ≡ None → declaration_fault (program_of program) (types_in program) ≡ None
unfolding fault_in
sound_program program sound = sound

-- it has the scenario of that name
named_in : (program : List AddedFile) (owner : Option (List ℕ)) (name : List ℕ) (t : ℕ) → scenario_in program owner name ≡ Some t → named_scenario (types_in program) owner name ≡ Some t
unfolding scenario_in
named_in program owner name t named = named

-- the scene of a known scenario that isn't too large
pub sound_scene : (program : List AddedFile) (t : ℕ) (setting : Setting) → IsKnown program t setting → is_too_large (types_in program) t setting ≡ false →
    IsSoundScene (scene (types_in program) t setting)
sound_scene program t setting known small =
    let p = program_of program in
    let sound = sound_program program known.sound in
    let named = named_in program known.owner known.name t known.named in
    let loaded = loads_are_loaded_programs known.loaded.files known.loaded.main program known.loaded.whole sound in
    let are_expanded = scenes_are_expanded p t known.owner known.name setting loaded sound named small known.ranges in
    let are_limited = scenes_are_limited p t known.owner known.name setting loaded sound named small in
    record { checkable = scenes_are_checkable (scene (types_in program) t setting) are_expanded are_limited; expanded = are_expanded; limited = are_limited }
