use Rattle.std.proofs.Common.{◌+◌, ◌∙◌, ap, sym}
use Rattle.std.specs.Option.{option_map_or}
use Rattle.dsl_tree.specs.Views.{expr_tree}
use Rattle.expansion_laws.specs.composition.Tokens.{tokens}
use Rattle.scene_texts.specs.Capped.{capped}
use Rattle.scene_texts.proofs.TokenNodes.{with_more}
use Rattle.scene_texts.proofs.token_counts.argument_tokens.Goals as goal

pub returns-in-Some : goal.returns-in-Some
returns-in-Some c =
    with_more 2 c.tokens.result (tokens (expr_tree c.args.argument.now.value)) c.add.result c.add.ensures c.tokens.ensures
    ∙ ap (λ name. capped (option_map_or (λ n. 2) name 0 + tokens (expr_tree c.args.argument.now.value))) (sym c.in-Some.is)
