-- What is asked of a program that was loaded: which scenario a word names, and why the program is refused in a setting.
use Rattle.std.specs.Prelude.{ℕ, ◌==◌, nat_lt, Bool, cond, List, [], ◌∷◌, Option, Some, None, option_map, length}
use Rattle.std.specs.List.{position_or_len, before_first, after_first}
use Rattle.std.specs.Option.{option_or}
use Rattle.osc_base.specs.declared.fault.FaultCode.{FaultCode}
use Rattle.osc_base.specs.declared.fault.Fault.{Fault}
use Rattle.dsl_tree.specs.Views.{file_tree}
use Rattle.name_scope.specs.FileNumbers.{AddedFile}
use Rattle.program_scenes.specs.type_heads.Types.{Types}
use Rattle.program_scenes.specs.type_heads.Members.{body}
use Rattle.loaded_programs.specs.composition.declared.setting.Setting.{Setting}
use Rattle.loaded_programs.specs.composition.SceneFaults.{is_too_large}
use Rattle.program_scenes.specs.named_scenario.Naming.{fault_in, scenario_in, types_in}
use Rattle.loaded_programs.specs.program_load.declared.stop.Refusal.{Refusal}
use Rattle.loaded_programs.specs.program_load.Loading.{name_at}

-- ---- The named scenario

abbrev pub is_point : ℕ → Bool
is_point byte = byte == 46

abbrev pub has_point : List ℕ → Bool
has_point word = nat_lt (position_or_len is_point word) (length word)

-- `NAME` names a scenario without an owner, and `OWNER.NAME` one of an owner: it is split at its first point
abbrev pub owner_in : List ℕ → Option (List ℕ)
owner_in word = cond (has_point word) (Some (before_first is_point word)) None

abbrev pub name_in : List ℕ → List ℕ
name_in word = cond (has_point word) (after_first is_point word) word

-- the scenario that the word names
abbrev pub scenario_named : List AddedFile → List ℕ → Option ℕ
scenario_named program word = scenario_in program (owner_in word) (name_in word)

-- ---- Refusals

-- a fault of a program, with the name of its file
abbrev pub faulty_at : List AddedFile → Fault → Refusal
faulty_at program fault = Refusal.Faulty (name_at program fault.place.file) fault

-- a program without the named scenario has a fault at the end of its main file
abbrev pub no_scenario : List AddedFile → Option Refusal
no_scenario [] = None
no_scenario (main ∷ others) = Some (Refusal.Faulty main.name (record { place = (file_tree main.file).end; code = FaultCode.NoScenario }))

-- the fault of a scenario that is too large for a scene, at its declared name
abbrev pub too_large : Setting → Types → ℕ → Option Fault
too_large setting ts t = cond (is_too_large ts t setting) (Some (record { place = (body ts.bodies t).place; code = FaultCode.TooMany })) None

-- the named scenario isn't there, or is too large
abbrev pub scenario_refusal : Setting → List AddedFile → Option ℕ → Option Refusal
scenario_refusal setting program None = no_scenario program
scenario_refusal setting program (Some t) = option_map (faulty_at program) (too_large setting (types_in program) t)

-- why a program is refused: the first fault of its declarations; else it has no such scenario; else the scenario is too large in this
-- setting
abbrev pub first_refusal : Setting → List AddedFile → List ℕ → Option Refusal
first_refusal setting program word =
    option_or (option_map (faulty_at program) (fault_in program)) (scenario_refusal setting program (scenario_named program word))
