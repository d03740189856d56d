-- What some words ask for, by computing.
use Rattle.std.proofs.Common.{◌≡◌, ◌+◌, ◌==◌, ◌&&◌, if◌then◌else◌, nat_le, ℕ, Bool, List, [], ◌∷◌, codes, refl, true}
use Rattle.clap.specs.Words.{Text}
use Rattle.clap.proofs.OnLiterals.{clap_on_literals}
use Rattle.osc_base.specs.declared.fault.FaultCode.{FaultCode}
use Rattle.fault_texts.specs.Explained.{explanation, topic_list}
use Rattle.fault_texts.specs.declared.topics.Status.{Status}
use Rattle.fault_texts.specs.declared.topics.Topic.{Topic}
use Rattle.command_words.specs.Match.{number_in, text_in}
use Rattle.command_words.specs.Shared.{Source}
use Rattle.command_words.specs.Texts.{check_help, export_help, flat_help, general_help, generate_help, make_help, migrate_help, verify_help, version_text}
use Rattle.command_words.specs.Words.{Wanted, Help, Generate, Check, Export, Verify, Flat, Make, Migrate, Refused, check, explain_wanted, export, flat, generate, make, migrate, request, topic_wanted, verify, wanted}
use Rattle.command_words.specs.declared.requests.ExportForm.{ExportForm}
use Rattle.command_words.specs.declared.requests.Setting.{Setting}

-- a run of `top` of `a.osc`, with these numbers
abbrev run : ℕ → ℕ → ℕ → ℕ → ℕ → ℕ → ℕ → Wanted
run ticks lanes road tick seed cuts tries = Generate (record {
  source = record { file = codes "a.osc"; scenario = codes "top" };
  setting = record { ticks = ticks; lanes = lanes; road = road; tick = tick };
  seed = seed;
  cuts = cuts;
  tries = tries;
})

-- the run of a source with all defaults
abbrev by_default : Text → Text → Wanted
by_default file scenario = Generate (record {
  source = record { file = file; scenario = scenario };
  setting = record { ticks = 100; lanes = 3; road = 1000; tick = 100 };
  seed = 0;
  cuts = 200000;
  tries = 1;
})

-- what `generate a.osc top` with these words after it asks for
abbrev of_top : List Text → Wanted
of_top words = request (codes "generate" ∷ codes "a.osc" ∷ codes "top" ∷ words)

-- options that aren't given have their defaults
defaults : of_top [] ≡ run 100 3 1000 100 0 200000 1
unfolding request wanted text_in number_in generate clap_on_literals
defaults = refl

-- each option can be given, also before the other words and with `=`
all_given : request (codes "generate" ∷ codes "--ticks=600" ∷ codes "a.osc" ∷ codes "--lanes" ∷ codes "8" ∷ codes "--road" ∷ codes "10000" ∷ codes "--tick=1000" ∷ codes "top" ∷ codes "--seed" ∷ codes "18446744073709551615" ∷ codes "--cuts" ∷ codes "1000000" ∷ codes "--tries=100" ∷ []) ≡ run 600 8 10000 1000 18446744073709551615 1000000 100
unfolding request wanted text_in number_in generate clap_on_literals
all_given = refl

-- zeros and a plus before a number are passed over
zeros : of_top (codes "--ticks" ∷ codes "005" ∷ []) ≡ run 5 3 1000 100 0 200000 1
unfolding request wanted text_in number_in generate clap_on_literals
zeros = refl

plus : of_top (codes "--ticks" ∷ codes "+5" ∷ []) ≡ run 5 3 1000 100 0 200000 1
unfolding request wanted text_in number_in generate clap_on_literals
plus = refl

-- numbers outside their ranges
no_cuts : of_top (codes "--cuts" ∷ codes "0" ∷ []) ≡ Refused
unfolding request wanted generate clap_on_literals
no_cuts = refl

no_tries : of_top (codes "--tries" ∷ codes "0" ∷ []) ≡ Refused
unfolding request wanted generate clap_on_literals
no_tries = refl

more_tries : of_top (codes "--tries" ∷ codes "101" ∷ []) ≡ Refused
unfolding request wanted generate clap_on_literals
more_tries = refl

more_ticks : of_top (codes "--ticks" ∷ codes "601" ∷ []) ≡ Refused
unfolding request wanted generate clap_on_literals
more_ticks = refl

more_lanes : of_top (codes "--lanes" ∷ codes "9" ∷ []) ≡ Refused
unfolding request wanted generate clap_on_literals
more_lanes = refl

short_tick : of_top (codes "--tick" ∷ codes "9" ∷ []) ≡ Refused
unfolding request wanted generate clap_on_literals
short_tick = refl

long_tick : of_top (codes "--tick" ∷ codes "1001" ∷ []) ≡ Refused
unfolding request wanted generate clap_on_literals
long_tick = refl

negative_seed : of_top (codes "--seed=-1" ∷ []) ≡ Refused
unfolding request wanted generate clap_on_literals
negative_seed = refl

wide_seed : of_top (codes "--seed" ∷ codes "18446744073709551616" ∷ []) ≡ Refused
unfolding request wanted generate clap_on_literals
wide_seed = refl

-- an option twice, without its number, cut short, and one that isn't known
repeated : of_top (codes "--ticks" ∷ codes "5" ∷ codes "--ticks" ∷ codes "6" ∷ []) ≡ Refused
unfolding request wanted generate clap_on_literals
repeated = refl

no_number : of_top (codes "--ticks" ∷ []) ≡ Refused
unfolding request wanted generate clap_on_literals
no_number = refl

cut_short : of_top (codes "--tic" ∷ codes "50" ∷ []) ≡ Refused
unfolding request wanted generate clap_on_literals
cut_short = refl

unknown_option : of_top (codes "--version" ∷ []) ≡ Refused
unfolding request wanted generate clap_on_literals
unknown_option = refl

-- a word too few and one too many
missing_word : request (codes "generate" ∷ codes "a.osc" ∷ []) ≡ Refused
unfolding request wanted generate clap_on_literals
missing_word = refl

third_word : of_top (codes "other" ∷ []) ≡ Refused
unfolding request wanted generate clap_on_literals
third_word = refl

-- after `--` a word may begin with a dash
behind_dashes : request (codes "generate" ∷ codes "--" ∷ codes "-f" ∷ codes "--ticks" ∷ []) ≡ by_default (codes "-f") (codes "--ticks")
unfolding request wanted text_in number_in generate clap_on_literals
behind_dashes = refl

-- a file may be called `help`, and an empty word or `-` is a word like others
help_as_file : request (codes "generate" ∷ codes "help" ∷ codes "-" ∷ []) ≡ by_default (codes "help") (codes "-")
unfolding request wanted text_in number_in generate clap_on_literals
help_as_file = refl

empty_file : request (codes "generate" ∷ [] ∷ [] ∷ []) ≡ by_default [] []
unfolding request wanted text_in number_in generate clap_on_literals
empty_file = refl

-- help of the command, also after what would be too few words, and not after a fault
help_of_generate : request (codes "generate" ∷ codes "--help" ∷ []) ≡ Help generate_help
unfolding request wanted generate clap_on_literals
help_of_generate = refl

short_help : of_top (codes "-h" ∷ codes "third" ∷ []) ≡ Help generate_help
unfolding request wanted generate clap_on_literals
short_help = refl

fault_before_help : of_top (codes "third" ∷ codes "--help" ∷ []) ≡ Refused
unfolding request wanted generate clap_on_literals
fault_before_help = refl

-- ---- the other commands

abbrev top : Source
top = record { file = codes "a.osc"; scenario = codes "top" }

abbrev usual : Setting
usual = record { ticks = 100; lanes = 3; road = 1000; tick = 100 }

-- each has the options of a setting, and no other; the file of a run or of a record is the third word
check_defaults : request (codes "check" ∷ codes "a.osc" ∷ codes "top" ∷ codes "r" ∷ []) ≡ Check (record { source = top; run = codes "r"; setting = usual })
unfolding request wanted text_in number_in check clap_on_literals
check_defaults = refl

export_defaults : request (codes "export" ∷ codes "a.osc" ∷ codes "top" ∷ codes "r" ∷ codes "--as" ∷ codes "csv" ∷ [])
    ≡ Export (record { source = top; run = codes "r"; setting = usual; form = ExportForm.Csv; ego = []; lane_width = 3500 })
unfolding request wanted text_in number_in export clap_on_literals
export_defaults = refl

export_given : request (codes "export" ∷ codes "--as=xosc" ∷ codes "a.osc" ∷ codes "top" ∷ codes "--ego" ∷ codes "sut.car" ∷ codes "r" ∷ codes "--lane-width" ∷ codes "3000" ∷ [])
    ≡ Export (record { source = top; run = codes "r"; setting = usual; form = ExportForm.Xosc; ego = codes "sut.car"; lane_width = 3000 })
unfolding request wanted text_in number_in export clap_on_literals
export_given = refl

no_form : request (codes "export" ∷ codes "a.osc" ∷ codes "top" ∷ codes "r" ∷ []) ≡ Refused
unfolding request wanted export clap_on_literals
no_form = refl

unknown_form : request (codes "export" ∷ codes "a.osc" ∷ codes "top" ∷ codes "r" ∷ codes "--as" ∷ codes "svg" ∷ []) ≡ Refused
unfolding request wanted text_in number_in export clap_on_literals
unknown_form = refl

narrow_lane : request (codes "export" ∷ codes "a.osc" ∷ codes "top" ∷ codes "r" ∷ codes "--as" ∷ codes "xodr" ∷ codes "--lane-width" ∷ codes "999" ∷ []) ≡ Refused
unfolding request wanted export clap_on_literals
narrow_lane = refl

help_of_export : request (codes "export" ∷ codes "--help" ∷ []) ≡ Help export_help
unfolding request wanted export clap_on_literals
help_of_export = refl

verify_given : request (codes "verify" ∷ codes "--road=9" ∷ codes "a.osc" ∷ codes "top" ∷ codes "--lanes" ∷ codes "1" ∷ codes "r" ∷ codes "--ticks" ∷ codes "7" ∷ codes "--tick" ∷ codes "20" ∷ [])
    ≡ Verify (record { source = top; «record» = codes "r"; setting = record { ticks = 7; lanes = 1; road = 9; tick = 20 } })
unfolding request wanted text_in number_in verify clap_on_literals
verify_given = refl

no_record : request (codes "verify" ∷ codes "a.osc" ∷ codes "top" ∷ []) ≡ Refused
unfolding request wanted verify clap_on_literals
no_record = refl

verify_cuts : request (codes "verify" ∷ codes "a.osc" ∷ codes "top" ∷ codes "r" ∷ codes "--cuts" ∷ codes "1" ∷ []) ≡ Refused
unfolding request wanted verify clap_on_literals
verify_cuts = refl

help_of_verify : request (codes "verify" ∷ codes "--help" ∷ []) ≡ Help verify_help
unfolding request wanted verify clap_on_literals
help_of_verify = refl

flat_defaults : request (codes "flat" ∷ codes "a.osc" ∷ codes "top" ∷ []) ≡ Flat (record { source = top; setting = usual })
unfolding request wanted text_in number_in flat clap_on_literals
flat_defaults = refl

flat_third : request (codes "flat" ∷ codes "a.osc" ∷ codes "top" ∷ codes "r" ∷ []) ≡ Refused
unfolding request wanted flat clap_on_literals
flat_third = refl

-- `make` takes one number, and no option but help
make_least : request (codes "make" ∷ codes "1" ∷ []) ≡ Make (record { count = 1 })
unfolding request wanted text_in number_in make clap_on_literals
make_least = refl

make_most : request (codes "make" ∷ codes "016" ∷ []) ≡ Make (record { count = 16 })
unfolding request wanted text_in number_in make clap_on_literals
make_most = refl

make_none : request (codes "make" ∷ codes "0" ∷ []) ≡ Refused
unfolding request wanted make clap_on_literals
make_none = refl

make_more : request (codes "make" ∷ codes "17" ∷ []) ≡ Refused
unfolding request wanted make clap_on_literals
make_more = refl

make_word : request (codes "make" ∷ codes "two" ∷ []) ≡ Refused
unfolding request wanted make clap_on_literals
make_word = refl

make_nothing : request (codes "make" ∷ []) ≡ Refused
unfolding request wanted make clap_on_literals
make_nothing = refl

make_ticks : request (codes "make" ∷ codes "1" ∷ codes "--ticks" ∷ codes "5" ∷ []) ≡ Refused
unfolding request wanted make clap_on_literals
make_ticks = refl

help_of_make : request (codes "make" ∷ codes "-h" ∷ []) ≡ Help make_help
unfolding request wanted make clap_on_literals
help_of_make = refl

-- `migrate` takes one file, and no option but help
migrate_run : request (codes "migrate" ∷ codes "r" ∷ []) ≡ Migrate (record { run = codes "r" })
unfolding request wanted text_in migrate clap_on_literals
migrate_run = refl

migrate_nothing : request (codes "migrate" ∷ []) ≡ Refused
unfolding request wanted migrate clap_on_literals
migrate_nothing = refl

migrate_second : request (codes "migrate" ∷ codes "r" ∷ codes "s" ∷ []) ≡ Refused
unfolding request wanted migrate clap_on_literals
migrate_second = refl

migrate_tick : request (codes "migrate" ∷ codes "r" ∷ codes "--tick" ∷ codes "50" ∷ []) ≡ Refused
unfolding request wanted migrate clap_on_literals
migrate_tick = refl

help_of_migrate : request (codes "migrate" ∷ codes "--help" ∷ []) ≡ Help migrate_help
unfolding request wanted migrate clap_on_literals
help_of_migrate = refl

-- the help of a command by its name, the general help, and the version
help : request (codes "help" ∷ codes "generate" ∷ []) ≡ Help generate_help
unfolding request
help = refl

help_option : request (codes "--help" ∷ []) ≡ Help general_help
unfolding request
help_option = refl

help_letter : request (codes "-h" ∷ codes "--bad" ∷ []) ≡ Help general_help
unfolding request
help_letter = refl

version : request (codes "--version" ∷ codes "help" ∷ []) ≡ Help version_text
unfolding request
version = refl

version_letter : request (codes "-V" ∷ []) ≡ Help version_text
unfolding request
version_letter = refl

-- one word after `explain`: the number of a code or of a status, or a word of help
codes_listed : request (codes "explain" ∷ []) ≡ Help topic_list
unfolding request explain_wanted
codes_listed = refl

explain_help : request (codes "explain" ∷ codes "--help" ∷ []) ≡ Help topic_list
unfolding request explain_wanted topic_wanted
explain_help = refl

explain_syntax : request (codes "explain" ∷ codes "201" ∷ []) ≡ Help (explanation (Topic.Fault FaultCode.Syntax))
unfolding request explain_wanted topic_wanted
explain_syntax = refl

explain_sink : request (codes "explain" ∷ codes "7" ∷ []) ≡ Help (explanation (Topic.Status Status.Sink))
unfolding request explain_wanted topic_wanted
explain_sink = refl

no_code : request (codes "explain" ∷ codes "200" ∷ []) ≡ Refused
unfolding request explain_wanted topic_wanted
no_code = refl

second_code : request (codes "explain" ∷ codes "201" ∷ codes "202" ∷ []) ≡ Refused
unfolding request explain_wanted
second_code = refl

-- no word, an empty one, and one that is no command
no_words : request [] ≡ Refused
unfolding request
no_words = refl

empty_word : request ([] ∷ []) ≡ Refused
unfolding request
empty_word = refl

no_command : request (codes "Generate" ∷ codes "a.osc" ∷ codes "top" ∷ []) ≡ Refused
unfolding request
no_command = refl

-- ---- no line of a help text is wider than 80 bytes

-- so it is from the byte on that has n others before it in its line
abbrev is_narrow : ℕ → Text → Bool
is_narrow n [] = true
is_narrow n (byte ∷ rest) = nat_le n 80 && is_narrow (if byte == 10 then 0 else (n + 1)) rest

narrow : (is_narrow 0 general_help && (is_narrow 0 generate_help && (is_narrow 0 check_help && (is_narrow 0 export_help && (is_narrow 0 verify_help && (is_narrow 0 flat_help && (is_narrow 0 make_help && is_narrow 0 migrate_help))))))) ≡ true
unfolding general_help generate_help check_help export_help verify_help flat_help make_help migrate_help
narrow = refl
