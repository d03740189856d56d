-- The scenes of loaded programs have paths and texts that can be read back, and so have the runs that a search reaches.
use Rattle.std.proofs.Common.{◌≡◌, refl, sym, ap, ℕ, suc, ◌+◌, ◌≤◌, ◌<◌, ◌^◌, List, [], ◌∷◌, ◌++◌, map, length, Option, Some, None, true, false, arith, length-append}
use Rattle.std.specs.Prelude.{flat_map}
use Rattle.std.proofs.lemmas.Bool.{ltb-true}
use Rattle.osc_base.specs.declared.path.Path.{Path}
use Rattle.osc_base.specs.declared.listing.SlotName.{SlotName}
use Rattle.source_scenes.specs.name_scope.FileNumbers.{AddedFile}
use Rattle.run_tests.specs.type_heads.DeclaredTypes.{program_of, types_of}
use Rattle.run_tests.specs.composition.declared.run.Run.{Run}
use Rattle.run_tests.specs.composition.declared.setting.Setting.{Setting}
use Rattle.run_tests.specs.composition.declared.spot.ChoiceSpot.{ChoiceSpot}
use Rattle.run_tests.specs.composition.declared.spot.PhaseSpot.{PhaseSpot}
use Rattle.run_tests.specs.composition.declared.spot.ValueSpot.{ValueSpot}
use Rattle.run_tests.specs.composition.Expanded.{scene}
use Rattle.run_tests.specs.composition.SceneFaults.{is_too_large, named_scenario}
use Rattle.run_tests.specs.composition.Scenes.{Scene, choices, phases, values, vehicles}
use Rattle.run_tests.specs.composition.Slots.{sample_names, slot_names, ticks_of}
use Rattle.run_tests.specs.composition.StaticFaults.{declaration_fault}
use Rattle.source_scenes.specs.named_scenario.Naming.{fault_in, scenario_in, types_in}
use Rattle.source_scenes.specs.field_flatten.Points.{point_of}
use Rattle.source_scenes.proofs.of_field_flatten.Exact.{exact}
use Rattle.source_scenes.proofs.of_scene_laws.FaultRows.{no_faults}
use Rattle.source_scenes.proofs.of_scene_laws.SceneFields.{program_judged}
use Rattle.source_scenes.proofs.of_checkable_scenes.PlacedScenarios.{actor_placed, named_is, whole_placed}
use Rattle.source_scenes.proofs.of_checkable_scenes.ProgramFacts.{program_acyclic, program_inherited}
use Rattle.source_scenes.proofs.of_checkable_scenes.ReadFacts.{program_alike}
use Rattle.source_scenes.proofs.of_loaded_programs.LoadedPrograms.{loads_are_loaded_programs}
use Rattle.source_scenes.specs.FoundScenes.{IsKnown}
use Rattle.source_scenes.proofs.SoundNamed.{sound_scene}
use Rattle.readable_runs.specs.ReadableRuns.{CanBeRead, ReachedRunsCanBeRead}
use Rattle.readable_runs.proofs.NoVehicle.{no_vehicle}
use Rattle.readable_runs.proofs.ProgramTexts.{all_taken_named, program_fields, program_texts, scene_texts}
use Rattle.readable_runs.proofs.ReadablePaths.{all_readable, phase_paths}
use Rattle.readable_runs.proofs.RunParts.{HasTexts, run_parts}
use Rattle.readable_runs.proofs.Utf8Runs.{run_utf8, run_written}

-- its declarations have no fault
sound_program : (program : List AddedFile) → fault_in program ≡ None → declaration_fault (program_of program) (types_in program) ≡ None
unfolding fault_in
sound_program program sound = sound

-- it has the scenario of that name
named_in : (program : List AddedFile) (owner : Option (List ℕ)) (name : List ℕ) (t : ℕ) → scenario_in program owner name ≡ Some t → named_scenario (types_in program) owner name ≡ Some t
unfolding scenario_in
named_in program owner name t named = named

-- a scene has no fewer slots than values
values_slots : (s : Scene) → length (values s) ≤ length (slot_names s)
values_slots s =
    by (map (λ (c : ChoiceSpot). SlotName.Choice c.path) (choices s)) (flat_map (λ (p : PhaseSpot). SlotName.Start p.path ∷ SlotName.End p.path ∷ []) (phases s)) (map (λ (v : ValueSpot). SlotName.Value v.path) (values s))
    (flat_map (λ (v : Path). flat_map (sample_names v) (ticks_of s.setting)) (vehicles s)) (length_map (λ (v : ValueSpot). SlotName.Value v.path) (values s))
  where
    length_map : {A B : Type 0} (f : A → B) (xs : List A) → length (map f xs) ≡ length xs
    length_map f [] = refl
    length_map f (x ∷ xs) = ap suc (length_map f xs)

    by : (xs bs cs ds : List SlotName) → length cs ≡ length (values s) → length (values s) ≤ length (xs ++ bs ++ cs ++ ds)
    by xs bs cs ds h =
        omega (arith, h, length-append (xs ++ bs ++ cs) ds, length-append (xs ++ bs) cs)

scene_has_texts : (program : List AddedFile) (t : ℕ) (setting : Setting) → IsKnown program t setting → is_too_large (types_in program) t setting ≡ false → HasTexts (scene (types_in program) t setting)
scene_has_texts program t setting known small =
    let p = program_of program in
    let ts = types_of p in
    let sound = sound_program program known.sound in
    let loaded = loads_are_loaded_programs known.loaded.files known.loaded.main program known.loaded.whole sound in
    let faults = no_faults p ts sound in
    let judged = program_judged p loaded.spelled sound in
    let acyclic = program_acyclic p faults in
    let named = named_is ts known.owner known.name t (named_in program known.owner known.name t known.named) in
    let its = sound_scene program t setting known small in
    let taken = known.loaded.whole.taken in
    let few = values_slots (scene ts t setting) in
    let slots = ltb-true (length (slot_names (scene ts t setting))) (2 ^ 32) its.expanded.is_scene.few_slots in
    record {
      paths =
          all_readable ts t setting acyclic (program_fields p (all_taken_named known.loaded.files known.loaded.main [] program 0 taken)) judged.free
          (below (length (values (scene ts t setting))) (length (slot_names (scene ts t setting))) few slots)
          (phase_paths ts t setting its.limited.few_members its.expanded.is_scene.nested)
          (no_vehicle known.loaded.files known.loaded.main program known.loaded.whole (program_inherited p faults) (program_alike p faults.headings) judged.actors t named.0)
          (whole_placed ts acyclic t named.1 named.0) (actor_placed ts acyclic t named.1 named.0 judged.actors);
      texts = scene_texts p t setting (program_texts known.loaded.files known.loaded.main program taken);
    }
  where
    below : (a b : ℕ) → a ≤ b → b < 2 ^ 32 → a < 2 ^ 32
    below a b p q = omega (arith, p, q)

pub reached_runs_can_be_read : ReachedRunsCanBeRead
reached_runs_can_be_read program t setting known small seed cuts run reached =
    let here = scene (types_in program) t setting in
    let its = sound_scene program t setting known small in
    let found = (exact here its.expanded).point_of_instance run reached.instance in
    let parts = run_parts here its.expanded its.limited (scene_has_texts program t setting known small) (point_of here run) found.inside run (sym found.gives) in
    record { utf8 = run_utf8 run parts; written = run_written run parts }
