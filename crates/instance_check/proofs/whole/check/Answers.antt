use Rattle.std.proofs.Common.{ap}
use Rattle.run_check.specs.composition.SeenScenes.{seen_scene}
use Rattle.run_check.specs.Answers.{first_wrong}
use Rattle.instance_check.proofs.Inside.{told}
use Rattle.instance_check.proofs.whole.check.Goals as goal

pub returns : goal.returns
returns c = told c.check_entries.result _ _ c.check_entries.ensures (ap (first_wrong (seen_scene c.args.scene.now)) c.in_ok-entries.ensures)
