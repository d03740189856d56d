use Rattle.std.proofs.Common.{◌+◌, ◌∙◌, ap}
use Rattle.scene_texts.specs.Capped.{capped}
use Rattle.scene_texts.proofs.Caps.{capped_around}
use Rattle.scene_texts.proofs.token_counts.between.Goals as goal

pub returns : goal.returns
returns c = c.add-2.ensures ∙ ap (λ n. capped (n + c.args.right)) c.add.ensures ∙ capped_around c.args.left c.args.middle c.args.right
