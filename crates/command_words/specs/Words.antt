-- What the words after the program's name ask for.
use Rattle.std.specs.Prelude.{ℕ, ◌≤◌, Bool, ◌||◌, if◌then◌else◌, List, [], ◌∷◌, Option, Some, None, codes, ⊤}
use Rattle.std.specs.Str.{bytes_eq}
use Rattle.clap.specs.Words.{App, Kinds, Text, fault_of}
use Rattle.fault_texts.specs.Explained.{explanation, topic_list}
use Rattle.fault_texts.specs.Topics.{topic_named}
use Rattle.clap.specs.declared.error.kind.ErrorKind.TheVariants.{DisplayHelp}
use Rattle.command_words.specs.Match.{Matched, choice_rule, command_of, matched_in, number_rule, number_word_rule, text_rule, word_rule}
use Rattle.command_words.specs.Shared.{IsSettingInRanges, Source, scene_command, setting_matched, source_matched}
use Rattle.command_words.specs.declared.requests.ExportForm.{ExportForm}
use Rattle.command_words.specs.declared.requests.Setting.{Setting}
use Rattle.command_words.specs.Texts.{check_help, export_help, flat_help, general_help, generate_help, make_help, migrate_help, verify_help, version_text}

-- what `generate` is asked for: a run of this scenario in this setting, found by a search with this seed and at most so many cuts, or with
-- a further seed, of at most so many tries
pub record GenerateAsked : Type 0 where
  pub source : Source
  pub setting : Setting
  pub seed : ℕ
  pub cuts : ℕ
  pub tries : ℕ

-- what `check` is asked for: whether the run in this file is an instance of this scenario in this setting
pub record CheckAsked : Type 0 where
  pub source : Source
  pub run : Text
  pub setting : Setting

-- what `export` is asked for: the run in this file, if it is an instance of this scenario in this setting, in this form; a simulator
-- drives the vehicle `ego`, and a lane has this width in millimetres
pub record ExportAsked : Type 0 where
  pub source : Source
  pub run : Text
  pub setting : Setting
  pub form : ExportForm
  pub ego : Text
  pub lane_width : ℕ

-- what `verify` is asked for: whether the record in this file is right about this scenario in this setting
pub record VerifyAsked : Type 0 where
  pub source : Source
  pub «record» : Text
  pub setting : Setting

-- what `flat` is asked for: the slots and rules of this scenario in this setting
pub record FlatAsked : Type 0 where
  pub source : Source
  pub setting : Setting

-- what `make` is asked for: a run of a source that is made for so many vehicles and as many parallel blocks
pub record MakeAsked : Type 0 where
  pub count : ℕ

-- what `migrate` is asked for: the run in this file, as text of form 2
pub record MigrateAsked : Type 0 where
  pub run : Text

-- a text that needs no file (of help, of the version, of a code), what a command is asked for, or nothing that is known
pub data Wanted : Type 0 where
  Help : Text → Wanted
  Generate : GenerateAsked → Wanted
  Check : CheckAsked → Wanted
  Export : ExportAsked → Wanted
  Verify : VerifyAsked → Wanted
  Flat : FlatAsked → Wanted
  Make : MakeAsked → Wanted
  Migrate : MigrateAsked → Wanted
  Refused : Wanted

-- ---- Commands

-- a command: its match definition, its help, and what its words ask for when they are taken
pub record Form : Type 0 where
  pub definition : App
  pub help : Text
  pub asked : Matched → Wanted

-- what a command's words ask for, by what its match definition finds wrong in them: if that is
-- nothing, what they were taken for; if it is that they ask for help, the command's help
abbrev pub by_fault : Kinds → Text → Wanted → Wanted
by_fault [] help taken = taken
by_fault (DisplayHelp ∷ kinds) help taken = Help help
by_fault _ help taken = Refused

-- what the words after a command's name ask for
unfoldable pub wanted : Form → List Text → Wanted
wanted form words =
    by_fault (fault_of form.definition words) form.help (form.asked (matched_in form.definition words))

unfoldable pub generate : App
generate = scene_command (codes "generate") [] (
    number_rule (codes "seed") 0 18446744073709551615 (codes "0")
    ∷ number_rule (codes "cuts") 1 1000000 (codes "200000")
    ∷ number_rule (codes "tries") 1 100 (codes "1")
    ∷ [])

abbrev pub generate_form : Form
generate_form = record {
  definition = generate;
  help = generate_help;
  asked = λ matched. Generate (record {
    source = source_matched matched;
    setting = setting_matched matched;
    seed = matched.number (codes "seed");
    cuts = matched.number (codes "cuts");
    tries = matched.number (codes "tries");
  });
}

unfoldable pub check : App
check = scene_command (codes "check") (word_rule (codes "RUN") ∷ []) []

abbrev pub check_form : Form
check_form = record {
  definition = check;
  help = check_help;
  asked = λ matched. Check (record {
    source = source_matched matched;
    run = matched.text (codes "RUN");
    setting = setting_matched matched;
  });
}

unfoldable pub export : App
export = scene_command (codes "export") (word_rule (codes "RUN") ∷ []) (
    choice_rule (codes "as")
    ∷ text_rule (codes "ego")
    ∷ number_rule (codes "lane-width") 1000 10000 (codes "3500")
    ∷ [])

-- the form of a name
abbrev pub export_form_named : Text → Option ExportForm
export_form_named name = if bytes_eq name (codes "csv") then Some ExportForm.Csv
    else if bytes_eq name (codes "xosc") then Some ExportForm.Xosc
    else if bytes_eq name (codes "xodr") then Some ExportForm.Xodr
    else if bytes_eq name (codes "html") then Some ExportForm.Html
    else None

-- what the words of `export` ask for, by the form that `--as` names
abbrev pub export_of : Matched → Option ExportForm → Wanted
export_of matched None = Refused
export_of matched (Some form) = Export (record {
  source = source_matched matched;
  run = matched.text (codes "RUN");
  setting = setting_matched matched;
  form = form;
  ego = matched.text (codes "ego");
  lane_width = matched.number (codes "lane-width");
})

abbrev pub export_asked : Matched → Wanted
export_asked matched = export_of matched (export_form_named (matched.text (codes "as")))

abbrev pub export_form : Form
export_form = record { definition = export; help = export_help; asked = export_asked }

unfoldable pub verify : App
verify = scene_command (codes "verify") (word_rule (codes "RECORD") ∷ []) []

abbrev pub verify_form : Form
verify_form = record {
  definition = verify;
  help = verify_help;
  asked = λ matched. Verify (record {
    source = source_matched matched;
    «record» = matched.text (codes "RECORD");
    setting = setting_matched matched;
  });
}

unfoldable pub flat : App
flat = scene_command (codes "flat") [] []

abbrev pub flat_form : Form
flat_form = record {
  definition = flat;
  help = flat_help;
  asked = λ matched. Flat (record { source = source_matched matched; setting = setting_matched matched });
}

unfoldable pub make : App
make = command_of (codes "make") (number_word_rule (codes "N") 1 16 ∷ [])

abbrev pub make_form : Form
make_form = record {
  definition = make;
  help = make_help;
  asked = λ matched. Make (record { count = matched.number (codes "N") });
}

unfoldable pub migrate : App
migrate = command_of (codes "migrate") (word_rule (codes "RUN") ∷ [])

abbrev pub migrate_form : Form
migrate_form = record {
  definition = migrate;
  help = migrate_help;
  asked = λ matched. Migrate (record { run = matched.text (codes "RUN") });
}

-- ---- Help and the version

-- the help of the command that a word names, or else the general help
abbrev pub help_of_word : Text → Text
help_of_word word = if bytes_eq word (codes "generate") then generate_help
    else if bytes_eq word (codes "check") then check_help
    else if bytes_eq word (codes "export") then export_help
    else if bytes_eq word (codes "verify") then verify_help
    else if bytes_eq word (codes "flat") then flat_help
    else if bytes_eq word (codes "make") then make_help
    else if bytes_eq word (codes "migrate") then migrate_help
    else general_help

-- the help that the words after `help` ask for; those after the first aren't read
abbrev pub help_named : List Text → Text
help_named [] = general_help
help_named (word ∷ rest) = help_of_word word

abbrev pub is_help_word : Text → Bool
is_help_word word =
    bytes_eq word (codes "help") || bytes_eq word (codes "--help") || bytes_eq word (codes "-h")

abbrev pub is_version_word : Text → Bool
is_version_word word = bytes_eq word (codes "--version") || bytes_eq word (codes "-V")

-- ---- `explain`

-- what the one word after `explain` asks for: what there is to say of the code or status of that number
unfoldable pub topic_wanted : Text → Wanted
topic_wanted word = if is_help_word word then Help topic_list
    else elim (topic_named word) [
      | Some topic ↦ Help (explanation topic)
      | None ↦ Refused
    ]

-- without a word all codes and statuses are listed
unfoldable pub explain_wanted : List Text → Wanted
explain_wanted [] = Help topic_list
explain_wanted (word ∷ []) = topic_wanted word
explain_wanted _ = Refused

-- ---- All words

-- the first word picks; after `--help`, `-h` and one that asks for the version nothing is read
unfoldable pub request : List Text → Wanted
request [] = Refused
request (first ∷ rest) = if bytes_eq first (codes "help") then Help (help_named rest)
    else if is_help_word first then Help general_help
    else if is_version_word first then Help version_text
    else if bytes_eq first (codes "generate") then wanted generate_form rest
    else if bytes_eq first (codes "check") then wanted check_form rest
    else if bytes_eq first (codes "export") then wanted export_form rest
    else if bytes_eq first (codes "verify") then wanted verify_form rest
    else if bytes_eq first (codes "flat") then wanted flat_form rest
    else if bytes_eq first (codes "make") then wanted make_form rest
    else if bytes_eq first (codes "migrate") then wanted migrate_form rest
    else if bytes_eq first (codes "explain") then explain_wanted rest
    else Refused

-- ---- Ranges

-- each number of `generate` is within the range of its option
pub record IsGenerateInRanges (asked : GenerateAsked) : Type 0 where
  pub setting_ranges : IsSettingInRanges asked.setting
  pub seed_range : asked.seed ≤ 18446744073709551615
  pub cuts_range : (1 ≤ asked.cuts) × (asked.cuts ≤ 1000000)
  pub tries_range : (1 ≤ asked.tries) × (asked.tries ≤ 100)

-- each number of `export` is within the range of its option
pub record IsExportInRanges (asked : ExportAsked) : Type 0 where
  pub setting_ranges : IsSettingInRanges asked.setting
  pub lane_width_range : (1000 ≤ asked.lane_width) × (asked.lane_width ≤ 10000)

-- the number of `make` is within its range
pub record IsMakeInRange (asked : MakeAsked) : Type 0 where
  pub count_range : (1 ≤ asked.count) × (asked.count ≤ 16)

-- the numbers of what is wanted are within their ranges
abbrev pub HasRanges : Wanted → Type 0
HasRanges (Help text) = ⊤
HasRanges (Generate asked) = IsGenerateInRanges asked
HasRanges (Check asked) = IsSettingInRanges asked.setting
HasRanges (Export asked) = IsExportInRanges asked
HasRanges (Verify asked) = IsSettingInRanges asked.setting
HasRanges (Flat asked) = IsSettingInRanges asked.setting
HasRanges (Make asked) = IsMakeInRange asked
HasRanges (Migrate asked) = ⊤
HasRanges Refused = ⊤
