use Rattle.checkable_scenes.proofs.SceneParts.{scenes_have_reads}
use Rattle.checkable_scenes.proofs.laws.scenes_have_reads.Goals as goal

pub returns : goal.returns
returns c = scenes_have_reads
