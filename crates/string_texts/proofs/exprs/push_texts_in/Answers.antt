use Rattle.std.proofs.Common.{◌∙◌, ◌++◌, ap, map, sym}
use Rattle.string_texts.proofs.StringLaws.{strings_are}
use Rattle.string_texts.proofs.exprs.push_texts_in.Goals as goal

pub returns : goal.returns
returns c = c.in_ok-push_expr.ensures ∙ ap (λ v. map (λ t. t.now) c.args.texts.now.items ++ v) (sym (strings_are c.args.expr.now))
