use Rattle.std.proofs.Common.{◌≡◌, take}
use Rattle.expansion_laws.specs.Counts.{total}
use Rattle.scene_texts.specs.Capped.{capped}
use Rattle.scene_texts.specs.RowTokens.{further_count, item_count, suffix_count}
use Rattle.scene_texts.proofs.token_counts.+tokens.Given as goal

abbrev pub invariant-further_tokens-further : goal.invariant-further_tokens-further
invariant-further_tokens-further l = l.all ≡ capped (total further_count (take l.further-index l.rest))

abbrev pub invariant-suffix_tokens-suffixes : goal.invariant-suffix_tokens-suffixes
invariant-suffix_tokens-suffixes l = l.all ≡ capped (total suffix_count (take l.suffix-index l.suffixes))

abbrev pub invariant-item_tokens-items : goal.invariant-item_tokens-items
invariant-item_tokens-items l = l.all ≡ capped (total item_count (take l.item-index l.items))
