use Rattle.std.proofs.Common.{◌∙◌, ap, sym}
use Rattle.dsl_tree.specs.Views.{argument_tree}
use Rattle.expansion_laws.specs.composition.Tokens.{argument_tokens}
use Rattle.expansion_laws.specs.Counts.{total}
use Rattle.scene_texts.specs.Capped.{capped}
use Rattle.scene_texts.specs.RowTokens.{later_count}
use Rattle.scene_texts.proofs.TokenNodes.{with_both}
use Rattle.scene_texts.proofs.ArgumentTokens.{arguments_counted}
use Rattle.scene_texts.proofs.token_counts.row_tokens.Goals as goal

pub returns : goal.returns
returns c =
    with_both c.argument_tokens.result c.later_tokens.result (argument_tokens (argument_tree c.args.first.now)) (total later_count c.args.later.now) c.add.result c.add.ensures c.argument_tokens.ensures c.later_tokens.ensures
    ∙ ap capped (sym (arguments_counted c.args.first.now c.args.later.now))
