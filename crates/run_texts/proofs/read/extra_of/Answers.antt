use Rattle.std.proofs.Common.{◌∙◌, ap, Some}
use Rattle.std.specs.Prelude.{option_map}
use Rattle.std.specs.String.{string_bytes}
use Rattle.run_texts.proofs.Keys.{keys_found}
use Rattle.run_texts.proofs.read.extra_of.Goals as goal

pub returns-in-Some : goal.returns-in-Some
returns-in-Some c =
    ap (λ z. Some z) c.as_str.ensures.value ∙ ap (option_map (λ k. string_bytes k)) c.in-Some.ensures ∙ keys_found c.args.form c.args.members.now.entries

pub returns-in-None : goal.returns-in-None
returns-in-None c = ap (option_map (λ k. string_bytes k)) c.in-None.ensures ∙ keys_found c.args.form c.args.members.now.entries
