-- A source has one right reply, or each right reply is left open, if the same holds of what a command answers about scenes.
use Rattle.std.proofs.Common.{◌≡◌, ◌∙◌, ◌⊎◌, inl, sym, ap, subst, ℕ, List, Option, Some, None}
use Rattle.loaded_programs.specs.outside_io.declared.shelf.NamedBytes.{NamedBytes}
use Rattle.name_scope.specs.FileNumbers.{AddedFile}
use Rattle.loaded_programs.specs.composition.declared.setting.Setting.{Setting}
use Rattle.loaded_programs.specs.composition.Expanded.{scene}
use Rattle.loaded_programs.specs.composition.Scenes.{Scene}
use Rattle.program_scenes.specs.named_scenario.Naming.{types_in}
use Rattle.loaded_programs.proofs.of_program_load.Sole.{one_load}
use Rattle.command_replies.specs.Reply.{Answer}
use Rattle.command_replies.specs.Replies.{refused_source}
use Rattle.source_scenes.specs.Programs.{first_refusal, scenario_named}
use Rattle.source_scenes.specs.Sources.{OnProgram, faulty, sound, OnSource, not_loaded, loaded}

some_is : {A : Type 0} (o : Option A) (x y : A) → o ≡ Some x → o ≡ Some y → x ≡ y
some_is o x y one two = let same : Some x ≡ Some y = sym one ∙ two in cc

none_some : {A : Type 0} (o : Option A) (x : A) → o ≡ None → o ≡ Some x → ⊥
none_some o x one two = let same : None ≡ Some x = sym one ∙ two in cc

-- two replies are one, or both are left open
abbrev pub One : (Answer → Type 0) → Answer → Answer → Type 0
One Open reply other = (reply ≡ other) ⊎ (Open reply × Open other)

module _ (setting : Setting) (Answers : List AddedFile → Scene → Answer → Type 0) (Open : Answer → Type 0)
    (one : (program : List AddedFile) (scene : Scene) (reply other : Answer) → Answers program scene reply → Answers program scene other → One Open reply other)
    (main word : List ℕ) where
  abbrev Replied : List AddedFile → Answer → Type 0
  Replied program reply = OnProgram program setting main word Answers reply

  pub on_program : (program : List AddedFile) (reply other : Answer) → Replied program reply → Replied program other → One Open reply other
  on_program program reply other (faulty refusal is told) (faulty refusal' is' told') =
      inl (told ∙ ap (refused_source main) (some_is (first_refusal setting program word) refusal refusal' is is') ∙ sym told')
  on_program program reply other (faulty refusal is told) (sound scenario' none' named' answer') = absurd (none_some (first_refusal setting program word) refusal none' is)
  on_program program reply other (sound scenario none named answer) (faulty refusal' is' told') = absurd (none_some (first_refusal setting program word) refusal' none is')
  on_program program reply other (sound scenario none named answer) (sound scenario' none' named' answer') =
      one program (scene (types_in program) scenario setting) reply other answer
      (subst (λ s. Answers program (scene (types_in program) s setting) other) (some_is (scenario_named program word) scenario' scenario named' named) answer')

  pub on_source : (sources : List NamedBytes) (reply other : Answer) → OnSource sources setting main word Answers reply → OnSource sources setting main word Answers other →
      One Open reply other
  on_source sources reply other (not_loaded refusal is told) (not_loaded refusal' is' told') =
      inl (told ∙ ap (refused_source main) ((one_load sources main).1 refusal refusal' is is') ∙ sym told')
  on_source sources reply other (not_loaded refusal is told) (loaded program' is' told') = absurd ((one_load sources main).2 program' refusal is' is)
  on_source sources reply other (loaded program is told) (not_loaded refusal' is' told') = absurd ((one_load sources main).2 program refusal' is is')
  on_source sources reply other (loaded program is told) (loaded program' is' told') =
      on_program program reply other told (subst (λ p. Replied p other) ((one_load sources main).0 program' program is' is) told')
