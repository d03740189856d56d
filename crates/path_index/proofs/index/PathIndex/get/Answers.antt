use Rattle.std.proofs.Common.{◌∙◌}
use Rattle.path_index.proofs.Keys.{found_by}
use Rattle.path_index.proofs.index.PathIndex.get.Goals as goal

pub returns : goal.returns
returns c = c.copied.ensures ∙ (c.get.ensures.value ∙ found_by c.args.self.now.places c.args.path.now)
