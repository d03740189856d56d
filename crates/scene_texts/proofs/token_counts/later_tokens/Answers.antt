use Rattle.std.proofs.Common.{refl}
use Rattle.dsl_tree.specs.Views.{argument_tree}
use Rattle.expansion_laws.specs.composition.Tokens.{argument_tokens}
use Rattle.scene_texts.specs.Capped.{capped}
use Rattle.scene_texts.specs.RowTokens.{later_count}
use Rattle.scene_texts.proofs.TokenRows.{total_more}
use Rattle.scene_texts.proofs.TokenNodes.{with_more}
use Rattle.scene_texts.proofs.token_counts.later_tokens.Goals as goal

pub loop-argument-init : goal.loop-argument-init
unfolding capped
loop-argument-init c = refl

pub loop-argument-preserved : goal.loop-argument-preserved
loop-argument-preserved c =
    total_more later_count c.args.arguments.now c.loop-argument.argument-index c.argument-item.result c.loop-argument.all c.add.result c.add-all.result
    c.loop-argument.invariant
    (with_more 1 c.argument_tokens.result (argument_tokens (argument_tree c.argument-item.result)) c.add.result c.add.ensures c.argument_tokens.ensures)
    c.add-all.ensures c.loop-argument-test.true c.argument-item.is
