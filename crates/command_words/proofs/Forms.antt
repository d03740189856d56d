-- The match definitions of the commands, and what their matches hold.
use Rattle.std.proofs.Common.{◌≡◌, ◌∙◌, ℕ, refl, sym, ap, true, List, [], Some, codes}
use Rattle.clap.specs.Walk.{arg_by_id}
use Rattle.clap.specs.Words.{App, IsParsedFrom, Text, app_of, fault_of, found_of, is_simple_and_free, matches_of, rows_of}
use Rattle.clap.specs.declared.builder.command.Command.{Command}
use Rattle.clap.specs.declared.parser.matches.ArgMatches.{ArgMatches}
use Rattle.clap.specs.declared.parser.matches.Found.{Found}
use Rattle.command_words.specs.Match.{matched_in, number_rule}
use Rattle.command_words.specs.Parse.{HoldsNumber, held, is_leaf}
use Rattle.command_words.specs.Taken.{HoldsNumbers, HoldsSetting, form_of}
use Rattle.command_words.specs.Words.{Form, Wanted, by_fault, check, export, flat, generate, make, migrate, verify, wanted}
use Rattle.command_words.specs.declared.commands.CommandName.{CommandName}
use Rattle.command_words.specs.declared.commands.CommandName.TheVariants as command
use Rattle.command_words.proofs.Matched.{held_is}
use Rattle.command_words.proofs.ValueReads.{is_named_once, is_plain_command, number_found, number_word_found}

pub is_simple : (name : CommandName) → is_simple_and_free (form_of name).definition ≡ true
unfolding generate check export verify flat make migrate
is_simple command.Generate = refl
is_simple command.Check = refl
is_simple command.Export = refl
is_simple command.Verify = refl
is_simple command.Flat = refl
is_simple command.Make = refl
is_simple command.Migrate = refl

pub has_no_subcommands : (name : CommandName) → is_leaf (form_of name).definition ≡ true
unfolding generate check export verify flat make migrate
has_no_subcommands command.Generate = refl
has_no_subcommands command.Check = refl
has_no_subcommands command.Export = refl
has_no_subcommands command.Verify = refl
has_no_subcommands command.Flat = refl
has_no_subcommands command.Make = refl
has_no_subcommands command.Migrate = refl

-- ---- numbers are in their ranges

-- the command has this option once
abbrev HasOption : App → Text → ℕ → ℕ → Text → Type 0
HasOption form name least most default =
    (is_named_once form name ≡ true) × (arg_by_id form.top.rules name ≡ Some (number_rule name least most default))

module _ (c : Command) (form : App) (m : ArgMatches) (same : app_of c ≡ form) (p : IsParsedFrom c m) (plain : is_plain_command form ≡ true) where
  option_held : (name : Text) (least most : ℕ) (default : Text) → HasOption form name least most default → HoldsNumber (found_of m) name least most
  option_held name least most default has = number_found c form m name least most default same p plain has.0 has.1

  setting_held : HasOption form (codes "ticks") 1 600 (codes "100") → HasOption form (codes "lanes") 1 8 (codes "3") → HasOption form (codes "road") 1 10000 (codes "1000")
      → HasOption form (codes "tick") 10 1000 (codes "100") → HoldsSetting (found_of m)
  setting_held ticks lanes road tick = record {
    ticks = option_held (codes "ticks") 1 600 (codes "100") ticks;
    lanes = option_held (codes "lanes") 1 8 (codes "3") lanes;
    road = option_held (codes "road") 1 10000 (codes "1000") road;
    tick = option_held (codes "tick") 10 1000 (codes "100") tick;
  }

-- if a parse takes the words, each number is in its range
pub holds_numbers : (name : CommandName) (c : Command) (m : ArgMatches) → app_of c ≡ (form_of name).definition → IsParsedFrom c m → HoldsNumbers name (found_of m)
unfolding generate check export verify flat make migrate
holds_numbers command.Generate c m same p = record {
  setting = setting_held c generate m same p refl (refl, refl) (refl, refl) (refl, refl) (refl, refl);
  seed = option_held c generate m same p refl (codes "seed") 0 18446744073709551615 (codes "0") (refl, refl);
  cuts = option_held c generate m same p refl (codes "cuts") 1 1000000 (codes "200000") (refl, refl);
  tries = option_held c generate m same p refl (codes "tries") 1 100 (codes "1") (refl, refl);
}
holds_numbers command.Check c m same p = setting_held c check m same p refl (refl, refl) (refl, refl) (refl, refl) (refl, refl)
holds_numbers command.Export c m same p = record {
  setting = setting_held c export m same p refl (refl, refl) (refl, refl) (refl, refl) (refl, refl);
  lane_width = option_held c export m same p refl (codes "lane-width") 1000 10000 (codes "3500") (refl, refl);
}
holds_numbers command.Verify c m same p = setting_held c verify m same p refl (refl, refl) (refl, refl) (refl, refl) (refl, refl)
holds_numbers command.Flat c m same p = setting_held c flat m same p refl (refl, refl) (refl, refl) (refl, refl) (refl, refl)
holds_numbers command.Make c m same p = number_word_found c make m (codes "N") 1 16 same p refl refl refl refl
holds_numbers command.Migrate c m same p = tt

-- ---- what words ask for

module _ (form : Form) (words : List Text) where
  -- words that are taken
  pub taken_is : (found : Found) (asked : Wanted) → fault_of form.definition words ≡ [] → rows_of found ≡ matches_of form.definition words
      → asked ≡ form.asked (held found) → asked ≡ wanted form words
  unfolding wanted
  taken_is found asked none rows is =
      is ∙ ap form.asked (held_is form.definition found words rows)
      ∙ sym (ap (λ kinds. by_fault kinds form.help (form.asked (matched_in form.definition words))) none)

  -- words with a fault
  pub fault_is : (help : Text) (answer : Text → Wanted) → help ≡ form.help
      → ((h : Text) (taken : Wanted) → by_fault (fault_of form.definition words) h taken ≡ answer h) → answer help ≡ wanted form words
  unfolding wanted
  fault_is help answer is found = ap answer is ∙ sym (found form.help (form.asked (matched_in form.definition words)))
