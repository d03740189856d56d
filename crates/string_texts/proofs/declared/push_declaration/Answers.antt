use Rattle.std.proofs.Common.{◌∙◌, ◌++◌, ap, map, sym}
use Rattle.string_texts.proofs.PhaseLaws.{declaration_is}
use Rattle.string_texts.proofs.declared.push_declaration.Goals as goal

pub returns : goal.returns
returns c = c.in_ok-push_strings.ensures ∙ ap (λ v. map (λ t. t.now) c.args.texts.now.items ++ v) (sym (declaration_is c.args.declaration.now))
