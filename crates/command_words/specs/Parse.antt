-- What the code's parse of a command's words gives.
use Rattle.std.specs.Prelude.{ℕ, ◌≡◌, ◌&&◌, Bool, Some, List, [], unwrap_or}
use Rattle.std.specs.Str.Parse.{digits_value, without_leading_plus}
use Rattle.clap.specs.Walk.{is_empty}
use Rattle.clap.specs.Words.{App, IsParsedFrom, IsUnsignedIn, Text, app_of, built, fault_of, first_value}
use Rattle.clap.specs.Words.{found_of, matches_of, one_text, rows_of}
use Rattle.clap.specs.declared.builder.command.Command.{Command}
use Rattle.clap.specs.declared.parser.matches.Found.{Found}
use Rattle.command_words.specs.Match.{Matched}
use Rattle.command_words.specs.Words.{Help, Refused, Wanted, by_fault}
use Rattle.command_words.specs.declared.parse.Parsed.{Parsed}
use Rattle.command_words.specs.declared.parse.Parsed.TheVariants as parsed

-- the command has no subcommands
abbrev pub is_leaf : App → Bool
is_leaf command = is_empty (built command).subs && (built command).top.is_leaf

-- what a parse of the words by the command gives
abbrev pub IsParse : Command → List Text → Parsed → Type 0
IsParse command words (parsed.Taken matches) = (fault_of (app_of command) words ≡ [])
    × IsParsedFrom command matches
    × (rows_of (found_of matches) ≡ matches_of (app_of command) words)
IsParse command words parsed.Help = (help : Text) (taken : Wanted)
    → by_fault (fault_of (app_of command) words) help taken ≡ Help help
IsParse command words parsed.Refused = (help : Text) (taken : Wanted)
    → by_fault (fault_of (app_of command) words) help taken ≡ Refused

-- the text that was found for a word
abbrev pub text_held : Found → Text → Text
text_held found name = unwrap_or (first_value found name) []

-- the number that was found for a word or an option
abbrev pub number_held : Found → Text → ℕ
number_held found name =
    digits_value 10 (without_leading_plus (unwrap_or (one_text found name) []))

-- what was found
abbrev pub held : Found → Matched
held found = record { text = text_held found; number = number_held found }

-- a number in this range was found for the word or the option
abbrev pub HoldsNumber : Found → Text → ℕ → ℕ → Type 0
HoldsNumber found name least most =
    (text : Text) × (one_text found name ≡ Some text) × IsUnsignedIn least most text
