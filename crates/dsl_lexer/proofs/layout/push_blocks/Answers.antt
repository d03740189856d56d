use Rattle.std.proofs.Common.{sym, ◌∙◌, ap, ◌++◌, length}
use Rattle.std.proofs.lemmas.Result.{on_ok_weaker}
use Rattle.dsl_lexer.specs.Steps.{stamped}
use Rattle.dsl_lexer.proofs.Stamps.{blocks_closed}
use Rattle.dsl_lexer.proofs.layout.push_blocks.Goals as goal

pub returns-else-is_widest-clause-pushed : goal.returns-else-is_widest-clause-pushed
returns-else-is_widest-clause-pushed c =
    let same = blocks_closed c.args.width c.args.widths.now c.count_wider.result (sym c.is_widest.ensures ∙ c.if-is_widest.false) c.count_wider.ensures.count in
    on_ok_weaker c.push_dedents.result (λ e. e ∙ ap (λ kinds. c.args.tokens.now ++ stamped c.args.file c.args.spot (length c.args.tokens.now) kinds) same) c.push_dedents.ensures.pushed
