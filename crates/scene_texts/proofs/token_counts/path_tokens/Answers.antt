use Rattle.std.proofs.Common.{◌+◌, ◌∙◌, ap, sym}
use Rattle.expansion_laws.specs.Counts.{total}
use Rattle.scene_texts.specs.Capped.{capped}
use Rattle.scene_texts.specs.RowTokens.{suffix_count}
use Rattle.scene_texts.proofs.TokenNodes.{with_more}
use Rattle.scene_texts.proofs.ArgumentTokens.{path_counted}
use Rattle.scene_texts.proofs.token_counts.path_tokens.Goals as goal

pub returns : goal.returns
returns c =
    with_more 1 c.suffix_tokens.result (total suffix_count c.as_slice.result.now) c.add.result c.add.ensures c.suffix_tokens.ensures
    ∙ ap (λ ss. capped (1 + total suffix_count ss)) c.as_slice.ensures
    ∙ ap capped (sym (path_counted c.args.path.now.head c.args.path.now.suffixes))
