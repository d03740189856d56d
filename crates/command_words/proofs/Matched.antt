-- What the matches of a command hold, as its match definition reads them.
use Rattle.std.proofs.Common.{◌≡◌, ◌∙◌, ap, List, [], unwrap_or}
use Rattle.std.specs.Str.Parse.{digits_value, without_leading_plus}
use Rattle.clap.specs.Words.{App, Row, Text, first_of, matches_of, one_of, rows_of}
use Rattle.clap.specs.declared.parser.matches.Found.{Found}
use Rattle.clap.proofs.WalkLemmas.{first_value-rows, one_text-rows}
use Rattle.command_words.specs.Match.{matched_in, number_in, text_in}
use Rattle.command_words.specs.Parse.{held, number_held, text_held}

module _ (command : App) (found : Found) (words : List Text) (same : rows_of found ≡ matches_of command words) where
  text_is : (name : Text) → text_held found name ≡ text_in command words name
  unfolding text_in
  text_is name =
      ap (λ o. unwrap_or o []) (first_value-rows found name) ∙ ap (λ (rows : List Row). unwrap_or (first_of name rows) []) same

  number_is : (name : Text) → number_held found name ≡ number_in command words name
  unfolding number_in
  number_is name =
      ap (λ o. digits_value 10 (without_leading_plus (unwrap_or o []))) (one_text-rows found name)
      ∙ ap (λ (rows : List Row). digits_value 10 (without_leading_plus (unwrap_or (one_of name rows) []))) same

  pub held_is : held found ≡ matched_in command words
  held_is = λ i. record { text = λ name. text_is name i; number = λ name. number_is name i }
