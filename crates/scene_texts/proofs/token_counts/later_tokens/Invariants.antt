use Rattle.std.proofs.Common.{◌≡◌, take}
use Rattle.expansion_laws.specs.Counts.{total}
use Rattle.scene_texts.specs.Capped.{capped}
use Rattle.scene_texts.specs.RowTokens.{later_count}
use Rattle.scene_texts.proofs.token_counts.later_tokens.Given as goal

abbrev pub invariant-loop-argument : goal.invariant-loop-argument
invariant-loop-argument l = l.all ≡ capped (total later_count (take l.argument-index l.arguments))
