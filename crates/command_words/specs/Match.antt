-- The words with which the match definition of a command is written, and how its matches are read.
use Rattle.std.specs.Prelude.{ℕ, List, [], ◌∷◌, true, Some, unwrap_or}
use Rattle.std.specs.Str.Parse.{digits_value, without_leading_plus}
use Rattle.clap.specs.Words.{App, Rule, Text, first_of, matches_of, new_app, new_rule, one_of, with_rule}
use Rattle.clap.specs.declared.builder.action.ArgAction.TheVariants.{Set}
use Rattle.clap.specs.declared.builder.value_parser.ValueParser.TheVariants.{Unsigned}

-- a word that must be given, in its turn
abbrev pub word_rule : Text → Rule
word_rule name = record (new_rule name) { action = Some Set; required = true }

-- a whole number from `least` to `most` that must be given, in its turn
abbrev pub number_word_rule : Text → ℕ → ℕ → Rule
number_word_rule name least most = record (word_rule name) { parser = Some (Unsigned least most) }

-- an option `--name` with a whole number from `least` to `most`, which is `default` if it isn't given
abbrev pub number_rule : Text → ℕ → ℕ → Text → Rule
number_rule name least most default = record (new_rule name) {
  long = Some name;
  action = Some Set;
  parser = Some (Unsigned least most);
  defaults = default ∷ [];
}

-- an option `--name` with a text, which may be left out
abbrev pub text_rule : Text → Rule
text_rule name = record (new_rule name) { long = Some name; action = Some Set }

-- an option `--name` with a text, which must be given
abbrev pub choice_rule : Text → Rule
choice_rule name = record (text_rule name) { required = true }

-- the command with these arguments, which reads the words after its own
abbrev pub command_of : Text → List Rule → App
command_of name rules = record {
  top = record (new_app name).top { no_binary_name = true; rules = rules };
  subs = [];
}

-- a command with these arguments more
abbrev pub with_rules : App → List Rule → App
with_rules command [] = command
with_rules command (r ∷ rest) = with_rules (with_rule command r) rest

-- what was matched: the text of each word, and the number of each word or option that is one
pub record Matched : Type 0 where
  pub text : Text → Text
  pub number : Text → ℕ

-- the text that the command matches with a word of this name
unfoldable pub text_in : App → List Text → Text → Text
text_in command words name = unwrap_or (first_of name (matches_of command words)) []

-- the number that the command matches with a word or an option of this name
unfoldable pub number_in : App → List Text → Text → ℕ
number_in command words name =
    digits_value 10 (without_leading_plus (unwrap_or (one_of name (matches_of command words)) []))

-- what the command matches
abbrev pub matched_in : App → List Text → Matched
matched_in command words = record { text = text_in command words; number = number_in command words }
