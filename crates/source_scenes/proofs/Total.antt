-- A source has some right reply, if a command has some answer about each scene.
use Rattle.std.proofs.Common.{◌≡◌, ◌∙◌, refl, sym, ap, ℕ, List, [], ◌∷◌, Option, Some, None}
use Rattle.std.specs.Prelude.{◌≢◌}
use Rattle.std.specs.Option.{option_or}
use Rattle.loaded_programs.specs.outside_io.declared.shelf.NamedBytes.{NamedBytes}
use Rattle.name_scope.specs.FileNumbers.{AddedFile}
use Rattle.loaded_programs.specs.composition.declared.setting.Setting.{Setting}
use Rattle.loaded_programs.specs.composition.Expanded.{scene}
use Rattle.loaded_programs.specs.composition.Scenes.{Scene}
use Rattle.program_scenes.specs.named_scenario.Naming.{types_in}
use Rattle.loaded_programs.specs.program_load.declared.stop.Refusal.{Refusal}
use Rattle.loaded_programs.proofs.of_program_load.Total.{some_load}
use Rattle.command_replies.specs.Reply.{Answer}
use Rattle.command_replies.specs.Replies.{refused_source}
use Rattle.source_scenes.specs.Programs.{first_refusal, scenario_named, scenario_refusal}
use Rattle.source_scenes.specs.Sources.{OnProgram, faulty, sound, OnSource, not_loaded, loaded}
use Rattle.source_scenes.proofs.Loads.{loaded_some}

none_some : {A : Type 0} (x : A) → None ≡ Some x → ⊥
none_some x same = cc

no_second : {A : Type 0} (o p : Option A) → option_or o p ≡ None → p ≡ None
no_second None p h = h
no_second (Some x) p h = absurd (none_some x (sym h))

module _ (setting : Setting) (Answers : List AddedFile → Scene → Answer → Type 0)
    (some : (program : List AddedFile) (scene : Scene) → ((reply : Answer) → Answers program scene reply → ⊥) → ⊥) (main word : List ℕ) where
  no_refusal : (program : List AddedFile) (named : Option ℕ) → program ≢ [] → named ≡ None → scenario_refusal setting program named ≡ None → ⊥
  no_refusal [] named there none h = there refl
  no_refusal (first ∷ others) named there none h = none_some _ (sym h ∙ ap (scenario_refusal setting (first ∷ others)) none)

  some_on_program : (program : List AddedFile) → program ≢ [] → ((reply : Answer) → OnProgram program setting main word Answers reply → ⊥) → ⊥
  some_on_program program there none = by (first_refusal setting program word) refl
    where
      by_name : (named : Option ℕ) → scenario_named program word ≡ named → first_refusal setting program word ≡ None → ⊥
      by_name (Some scenario) is fine = some program (scene (types_in program) scenario setting) (λ reply answer. none reply (sound scenario fine is answer))
      by_name None is fine = no_refusal program (scenario_named program word) there is (no_second _ _ fine)

      by : (first : Option Refusal) → first_refusal setting program word ≡ first → ⊥
      by (Some refusal) is = none (refused_source main refusal) (faulty refusal is refl)
      by None is = by_name (scenario_named program word) refl is

  pub some_on_source : (sources : List NamedBytes) → ((reply : Answer) → OnSource sources setting main word Answers reply → ⊥) → ⊥
  some_on_source sources none =
      some_load sources main
      (λ program is. some_on_program program (loaded_some sources main program is) (λ reply told. none reply (loaded program is told)))
      (λ refusal is. none (refused_source main refusal) (not_loaded refusal is refl))
