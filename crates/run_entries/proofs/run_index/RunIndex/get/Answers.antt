use Rattle.std.proofs.Common.{◌∙◌}
use Rattle.run_entries.proofs.Keys.{found_by}
use Rattle.run_entries.proofs.run_index.RunIndex.get.Goals as goal

pub returns : goal.returns
returns c = c.copied.ensures ∙ (c.get.ensures.value ∙ found_by c.args.self.now.places c.args.path.now)
