use Rattle.std.proofs.Common.{◌≡◌, ◌∙◌, IfOk, List, [], ◌∷◌, length, map, ap, sym, string_bytes, Result, String, arith, refl}
use Rattle.std.proofs.lemmas.Result.{IfOk-weaker}
use Rattle.clap.specs.Walk.{Text}
use Rattle.command_words.specs.Seen.{seen}
use Rattle.command_words.specs.Taken.{form_of}
use Rattle.command_words.specs.Words.{Help, request, wanted}
use Rattle.command_words.specs.declared.commands.CommandName.{CommandName}
use Rattle.command_words.specs.declared.commands.CommandName.TheVariants as command
use Rattle.command_words.specs.declared.requests.Request.{Request}
use Rattle.command_words.proofs.FirstWords.{command_word, explain_word, help_option, help_word, no_word, unknown_word, version_word, word_of}
use Rattle.command_words.proofs.requests.read_words.Goals as goal

none_left : {X : Type 0} (xs : List X) → length xs ≡ 0 → xs ≡ []
none_left [] h = refl
none_left (x ∷ xs) h = absurd (omega arith)

-- the words, from the first one on
words_are : {Z : Type 0} (words rest : List (String Z)) (first : String Z) (text : Text) → words ≡ first ∷ rest → text ≡ string_bytes first
    → text ∷ map string_bytes rest ≡ map string_bytes words
words_are words rest first text is same =
    ap (λ t. t ∷ map string_bytes rest) same ∙ sym (ap (map string_bytes) is)

-- a command is picked by its word
picked : {Z : Type 0} (words rest : List (String Z)) (first : Text) (name : CommandName) → first ∷ map string_bytes rest ≡ map string_bytes words
    → first ≡ word_of name → {E : Type 0} (answer : Result Request E) → IfOk answer (λ r. seen r ≡ wanted (form_of name) (map string_bytes rest))
    → IfOk answer (λ r. seen r ≡ request (map string_bytes words))
picked words rest first name same is answer =
    IfOk-weaker answer _ _ (λ r h. h ∙ sym (command_word name first (map string_bytes rest) is) ∙ ap request same)

pub returns-in_default-clause-request : goal.returns-in_default-clause-request
returns-in_default-clause-request c =
    let none : c.args.words.now ≡ [] = none_left _ (rw c.in_default.is at c.split_first.ensures.cases) in
    sym (ap (λ words. request (map string_bytes words)) none ∙ no_word)

pub returns-in-generate-clause-request : goal.returns-in-generate-clause-request
returns-in-generate-clause-request c =
    let words = words_are c.args.words.now c.in-Some.rest.now c.in-Some.first.now c.as_str.result.now c.in-Some.ensures.cases.0 c.as_str.ensures.value in
    picked c.args.words.now c.in-Some.rest.now c.as_str.result.now command.Generate words c.in-generate.is c.read_command.result c.read_command.ensures.request

pub returns-in-check-clause-request : goal.returns-in-check-clause-request
returns-in-check-clause-request c =
    let words = words_are c.args.words.now c.in-Some.rest.now c.in-Some.first.now c.as_str.result.now c.in-Some.ensures.cases.0 c.as_str.ensures.value in
    picked c.args.words.now c.in-Some.rest.now c.as_str.result.now command.Check words c.in-check.is c.read_command-in-check.result c.read_command-in-check.ensures.request

pub returns-in-export-clause-request : goal.returns-in-export-clause-request
returns-in-export-clause-request c =
    let words = words_are c.args.words.now c.in-Some.rest.now c.in-Some.first.now c.as_str.result.now c.in-Some.ensures.cases.0 c.as_str.ensures.value in
    picked c.args.words.now c.in-Some.rest.now c.as_str.result.now command.Export words c.in-export.is c.read_command-in-export.result c.read_command-in-export.ensures.request

pub returns-in-verify-clause-request : goal.returns-in-verify-clause-request
returns-in-verify-clause-request c =
    let words = words_are c.args.words.now c.in-Some.rest.now c.in-Some.first.now c.as_str.result.now c.in-Some.ensures.cases.0 c.as_str.ensures.value in
    picked c.args.words.now c.in-Some.rest.now c.as_str.result.now command.Verify words c.in-verify.is c.read_command-in-verify.result c.read_command-in-verify.ensures.request

pub returns-in-flat-clause-request : goal.returns-in-flat-clause-request
returns-in-flat-clause-request c =
    let words = words_are c.args.words.now c.in-Some.rest.now c.in-Some.first.now c.as_str.result.now c.in-Some.ensures.cases.0 c.as_str.ensures.value in
    picked c.args.words.now c.in-Some.rest.now c.as_str.result.now command.Flat words c.in-flat.is c.read_command-in-flat.result c.read_command-in-flat.ensures.request

pub returns-in-make-clause-request : goal.returns-in-make-clause-request
returns-in-make-clause-request c =
    let words = words_are c.args.words.now c.in-Some.rest.now c.in-Some.first.now c.as_str.result.now c.in-Some.ensures.cases.0 c.as_str.ensures.value in
    picked c.args.words.now c.in-Some.rest.now c.as_str.result.now command.Make words c.in-make.is c.read_command-in-make.result c.read_command-in-make.ensures.request

pub returns-in-migrate-clause-request : goal.returns-in-migrate-clause-request
returns-in-migrate-clause-request c =
    let words = words_are c.args.words.now c.in-Some.rest.now c.in-Some.first.now c.as_str.result.now c.in-Some.ensures.cases.0 c.as_str.ensures.value in
    picked c.args.words.now c.in-Some.rest.now c.as_str.result.now command.Migrate words c.in-migrate.is c.read_command-in-migrate.result c.read_command-in-migrate.ensures.request

pub returns-in-explain-clause-request : goal.returns-in-explain-clause-request
returns-in-explain-clause-request c =
    let words = words_are c.args.words.now c.in-Some.rest.now c.in-Some.first.now c.as_str.result.now c.in-Some.ensures.cases.0 c.as_str.ensures.value in
    c.read_explain.ensures.request ∙ sym (explain_word c.as_str.result.now (map string_bytes c.in-Some.rest.now) c.in-explain.is) ∙ ap request words

pub returns-in_default-as_str-clause-request : goal.returns-in_default-as_str-clause-request
returns-in_default-as_str-clause-request c =
    let words = words_are c.args.words.now c.in-Some.rest.now c.in-Some.first.now c.as_str.result.now c.in-Some.ensures.cases.0 c.as_str.ensures.value in
    let other = c.in_default-as_str in
    sym (unknown_word c.as_str.result.now (map string_bytes c.in-Some.rest.now) other.not-help other.not-text other.not-text-2 other.not-text-3 other.not-text-4 other.not-generate other.not-check other.not-export other.not-verify other.not-flat other.not-make other.not-migrate other.not-explain)
    ∙ ap request words

pub returns-in-text-2-clause-request : goal.returns-in-text-2-clause-request
returns-in-text-2-clause-request c =
    let words = words_are c.args.words.now c.in-Some.rest.now c.in-Some.first.now c.as_str.result.now c.in-Some.ensures.cases.0 c.as_str.ensures.value in
    ap Help c.version_text.ensures ∙ sym (version_word c.as_str.result.now (map string_bytes c.in-Some.rest.now) c.in-text-2.is) ∙ ap request words

pub returns-in-help-clause-request : goal.returns-in-help-clause-request
returns-in-help-clause-request c =
    let words = words_are c.args.words.now c.in-Some.rest.now c.in-Some.first.now c.as_str.result.now c.in-Some.ensures.cases.0 c.as_str.ensures.value in
    ap Help c.help_named.ensures ∙ sym (help_word c.as_str.result.now (map string_bytes c.in-Some.rest.now) c.in-help.is) ∙ ap request words

pub returns-in-text-clause-request : goal.returns-in-text-clause-request
returns-in-text-clause-request c =
    let words = words_are c.args.words.now c.in-Some.rest.now c.in-Some.first.now c.as_str.result.now c.in-Some.ensures.cases.0 c.as_str.ensures.value in
    ap Help c.general_help.ensures ∙ sym (help_option c.as_str.result.now (map string_bytes c.in-Some.rest.now) c.in-text.is) ∙ ap request words
