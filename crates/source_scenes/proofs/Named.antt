-- What is found for the word of a scenario.
use Rattle.std.proofs.Common.{◌≡◌, ◌∙◌, refl, sym, ap, ℕ, List, [], ◌∷◌, Option, Some, None, Result, Ok, Err, IfOk}
use Rattle.std.specs.Prelude.{◌≢◌, option_map, slice_get}
use Rattle.std.specs.Option.{option_or}
use Rattle.osc_base.specs.declared.fault.Fault.{Fault}
use Rattle.name_scope.specs.FileNumbers.{AddedFile}
use Rattle.loaded_programs.specs.composition.declared.setting.Setting.{Setting}
use Rattle.program_scenes.specs.named_scenario.Found.{IsNamed}
use Rattle.program_scenes.specs.named_scenario.Naming.{fault_in, scenario_in, types_in}
use Rattle.program_scenes.specs.named_scenario.declared.named.NamedScenario.{NamedScenario}
use Rattle.loaded_programs.specs.program_load.declared.stop.Refusal.{Refusal}
use Rattle.command_replies.specs.Reply.{Answer}
use Rattle.command_replies.specs.Replies.{refused_source}
use Rattle.source_scenes.specs.declared.found.FoundScene.{FoundScene}
use Rattle.source_scenes.specs.FoundScenes.{IsFoundScene, IsRefused, IsSceneOf}
use Rattle.source_scenes.specs.Programs.{faulty_at, first_refusal, name_in, no_scenario, owner_in, scenario_named, scenario_refusal, too_large}

-- ---- The end of the main file

-- what is asked of a program's main file is there
pub asked_of_main : {X : Type 0} (part : AddedFile → X) (program : List AddedFile) → program ≢ [] → None ≡ option_map part (slice_get program 0) → ⊥
asked_of_main part [] some none = some refl
asked_of_main part (main ∷ others) some none = cc

-- ---- What is found

module _ (program : List AddedFile) (setting : Setting) (word : List ℕ) where
  abbrev picked : Option Fault → Option ℕ → Option Refusal
  picked o s = option_or (option_map (faulty_at program) o) (scenario_refusal setting program s)

  -- they have none, and there is no such scenario
  pub found_none : (owner : Option (List ℕ)) (name : List ℕ) (reply : Answer) → owner ≡ owner_in word → name ≡ name_in word → fault_in program ≡ None → scenario_in program owner name ≡ None →
      ((main : List ℕ) → option_map (refused_source main) (no_scenario program) ≡ Some reply) → IsRefused program setting word reply
  found_none owner name reply same same' fine none told main =
      let absent : scenario_named program word ≡ None = ap (λ o. scenario_in program o (name_in word)) (sym same) ∙ ap (scenario_in program owner) (sym same') ∙ none in
      ap (λ o. option_map (refused_source main) (picked o (scenario_named program word))) fine
      ∙ ap (λ s. option_map (refused_source main) (picked None s)) absent ∙ told main

  pub first_is : (t : ℕ) → fault_in program ≡ None → scenario_named program word ≡ Some t →
      first_refusal setting program word ≡ option_map (faulty_at program) (too_large setting (types_in program) t)
  first_is t fine named = ap (λ o. picked o (scenario_named program word)) fine ∙ ap (picked None) named

  -- what is found of the scenario
  found_scene : (t : ℕ) (found : FoundScene) → fault_in program ≡ None → scenario_named program word ≡ Some t → IsSceneOf program setting t found → IsFoundScene program setting word found
  found_scene t (FoundScene.Scene s) fine named its = (t, first_is t fine named ∙ ap (option_map (faulty_at program)) its.0, named, its.1, its.2)
  found_scene t (FoundScene.Refused reply) fine named its =
      λ main. ap (option_map (refused_source main)) (first_is t fine named ∙ ap (option_map (faulty_at program)) its.1) ∙ ap Some (sym its.2)

  named_so : (owner : Option (List ℕ)) (name : List ℕ) (t : ℕ) → owner ≡ owner_in word → name ≡ name_in word → scenario_in program owner name ≡ Some t → scenario_named program word ≡ Some t
  named_so owner name t same same' is = ap (λ o. scenario_in program o (name_in word)) (sym same) ∙ ap (scenario_in program owner) (sym same') ∙ is

  pub found_named : {E : Type 0} (owner : Option (List ℕ)) (name : List ℕ) (n : NamedScenario) (r : Result FoundScene E) → owner ≡ owner_in word → name ≡ name_in word →
      IsNamed program owner name n → IfOk r (IsSceneOf program setting n.id) → IfOk r (IsFoundScene program setting word)
  found_named owner name n (Ok found) same same' its told = found_scene n.id found its.sound (named_so owner name n.id same same' its.named) told
  found_named owner name n (Err e) same same' its told = tt
