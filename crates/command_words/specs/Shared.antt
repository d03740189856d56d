-- Words that commands share: the source and the setting.
use Rattle.std.specs.Prelude.{◌≤◌, List, [], ◌∷◌, ◌++◌, codes}
use Rattle.clap.specs.Words.{App, Rule, Text}
use Rattle.command_words.specs.Match.{Matched, command_of, number_rule, word_rule}
use Rattle.command_words.specs.declared.requests.Setting.{Setting}

-- a scenario of a source file
pub record Source : Type 0 where
  pub file : Text
  pub scenario : Text

-- the words of a source
abbrev pub source_rules : List Rule
source_rules = word_rule (codes "FILE") ∷ word_rule (codes "SCENARIO") ∷ []

-- the options of a setting
abbrev pub setting_rules : List Rule
setting_rules = number_rule (codes "ticks") 1 600 (codes "100")
    ∷ number_rule (codes "lanes") 1 8 (codes "3")
    ∷ number_rule (codes "road") 1 10000 (codes "1000")
    ∷ number_rule (codes "tick") 10 1000 (codes "100")
    ∷ []

-- the command `name` with the words of a source, further words, the options of a setting, and further options
abbrev pub scene_command : Text → List Rule → List Rule → App
scene_command name words options = command_of name (source_rules ++ words ++ setting_rules ++ options)

-- the source that was matched
abbrev pub source_matched : Matched → Source
source_matched matched = record {
  file = matched.text (codes "FILE");
  scenario = matched.text (codes "SCENARIO");
}

-- the setting that was matched
abbrev pub setting_matched : Matched → Setting
setting_matched matched = record {
  ticks = matched.number (codes "ticks");
  lanes = matched.number (codes "lanes");
  road = matched.number (codes "road");
  tick = matched.number (codes "tick");
}

-- each number of a setting is within the range of its option
pub record IsSettingInRanges (setting : Setting) : Type 0 where
  pub ticks_range : (1 ≤ setting.ticks) × (setting.ticks ≤ 600)
  pub lanes_range : (1 ≤ setting.lanes) × (setting.lanes ≤ 8)
  pub road_range : (1 ≤ setting.road) × (setting.road ≤ 10000)
  pub tick_range : (10 ≤ setting.tick) × (setting.tick ≤ 1000)
