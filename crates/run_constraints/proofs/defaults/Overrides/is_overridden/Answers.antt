use Rattle.std.proofs.Common.{◌∙◌, ap}
use Rattle.std.specs.List.{list_any}
use Rattle.scene_conditions.specs.composition.Items.{is_asked_number}
use Rattle.scene_conditions.specs.composition.There.{is_asked}
use Rattle.run_values.specs.SeenNumbers.{scene_in, run_in}
use Rattle.run_constraints.proofs.Overridden.{any_flagged}
use Rattle.run_constraints.proofs.defaults.Overrides.is_overridden.Goals as goal

pub returns : goal.returns
returns c =
    c.is_any_flagged.ensures
    ∙ any_flagged (is_asked (scene_in c.args._numbers.now) (run_in c.args._numbers.now)) (scene_in c.args._numbers.now).occurrences c.as_slice.result.now c.overriders.result.now
    (c.as_slice.ensures ∙ c.requires.flags)
    ∙ ap (list_any (is_asked_number (scene_in c.args._numbers.now) (run_in c.args._numbers.now))) (c.overriders.ensures ∙ c.requires.targets c.args.number)
