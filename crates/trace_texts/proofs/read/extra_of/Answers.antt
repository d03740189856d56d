use Rattle.std.proofs.Common.{◌∙◌, ap, Some, not}
use Rattle.std.specs.Prelude.{option_map}
use Rattle.std.specs.String.{string_bytes}
use Rattle.trace_texts.specs.TraceShape.{is_traces_key}
use Rattle.trace_texts.proofs.Keys.{keys_found}
use Rattle.trace_texts.proofs.read.extra_of.Goals as goal

pub returns-in-Some : goal.returns-in-Some
returns-in-Some c =
    ap (λ z. Some z) c.as_str.ensures.value ∙ ap (option_map (λ k. string_bytes k)) c.in-Some.ensures ∙ keys_found (λ k. not (is_traces_key k)) c.args.members.now.entries

pub returns-in-None : goal.returns-in-None
returns-in-None c = ap (option_map (λ k. string_bytes k)) c.in-None.ensures ∙ keys_found (λ k. not (is_traces_key k)) c.args.members.now.entries
