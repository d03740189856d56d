use Rattle.std.proofs.Common.{◌∙◌, ap, List, ℕ, map}
use denote.Ref.{Bor}
use Rattle.string_texts.proofs.OrderedTexts.{put_is}
use Rattle.string_texts.proofs.sorted.put.Goals as goal

pub returns : goal.returns
returns c = ap (map (λ (t : Bor (List ℕ)). t.now)) c.in_ok-insert.ensures.keys ∙ put_is c.args.texts.now.keys c.args.text
