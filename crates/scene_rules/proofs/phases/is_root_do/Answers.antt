use Rattle.std.proofs.Common.{◌∙◌, ap}
use Rattle.scene_rules.specs.Sides.{is_only_do}
use Rattle.scene_rules.proofs.RootDo.{do_is}
use Rattle.scene_rules.proofs.phases.is_root_do.Goals as goal

pub returns : goal.returns
returns c = c.is_do.ensures ∙ ap is_only_do c.as_slice.ensures ∙ do_is c.args.path.now.steps
