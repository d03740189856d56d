use Rattle.std.proofs.Common.{◌∙◌, ap, sym, refl, map, string_bytes}
use Rattle.clap.specs.Words.{App, fault_of, found_of, is_simple_and_free, matches_of}
use Rattle.command_words.specs.Parse.{is_leaf}
use Rattle.command_words.specs.Taken.{form_of}
use Rattle.command_words.specs.Words.{Help, Refused, by_fault}
use Rattle.command_words.proofs.Forms.{fault_is, has_no_subcommands, holds_numbers, is_simple, taken_is}
use Rattle.command_words.proofs.commands.read_command.Goals as goal

pub parse-requires-clause-simple : goal.parse-requires-clause-simple
parse-requires-clause-simple c = ap is_simple_and_free c.in_ok-command.ensures ∙ is_simple c.args.name

pub parse-requires-clause-leaf : goal.parse-requires-clause-leaf
parse-requires-clause-leaf c = ap is_leaf c.in_ok-command.ensures ∙ has_no_subcommands c.args.name

pub taken-requires : goal.taken-requires
taken-requires c =
    let parsed = rw c.in-Taken.is at c.in_ok-matches.ensures in
    holds_numbers c.args.name c.in_ok-command.command c.in-Taken.matches c.in_ok-command.ensures parsed.1

pub returns-in-Taken-clause-request : goal.returns-in-Taken-clause-request
returns-in-Taken-clause-request c =
    let parsed = rw c.in-Taken.is at c.in_ok-matches.ensures in
    let words = map string_bytes c.args.words.now in
    taken_is (form_of c.args.name) words (found_of c.in-Taken.matches) _ (ap (λ (a : App). fault_of a words) (sym c.in_ok-command.ensures) ∙ parsed.0)
    (parsed.2 ∙ ap (λ (a : App). matches_of a words) c.in_ok-command.ensures) c.taken.ensures.request

pub returns-in-Help-clause-request : goal.returns-in-Help-clause-request
returns-in-Help-clause-request c =
    let words = map string_bytes c.args.words.now in
    let found = rw c.in-Help.is at c.in_ok-matches.ensures in
    fault_is (form_of c.args.name) words c.help_of.result.now Help c.help_of.ensures
    (λ h t. ap (λ (a : App). by_fault (fault_of a words) h t) (sym c.in_ok-command.ensures) ∙ found h t)

pub returns-in-Refused-clause-request : goal.returns-in-Refused-clause-request
returns-in-Refused-clause-request c =
    let words = map string_bytes c.args.words.now in
    let found = rw c.in-Refused.is at c.in_ok-matches.ensures in
    fault_is (form_of c.args.name) words _ (λ h. Refused) refl
    (λ h t. ap (λ (a : App). by_fault (fault_of a words) h t) (sym c.in_ok-command.ensures) ∙ found h t)
