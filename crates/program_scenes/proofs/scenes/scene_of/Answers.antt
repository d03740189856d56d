use Rattle.named_scenario.specs.Naming.{types_in}
use Rattle.program_scenes.proofs.SameTypes.{told_are, types_are}
use Rattle.program_scenes.proofs.SceneFound.{of_program}
use Rattle.program_scenes.proofs.scenes.scene_of.Goals as goal

pub scene_among-requires : goal.scene_among-requires
scene_among-requires c = record { built = told_are (types_in c.args.program.now) c.in_ok-members.members c.args.named.now.types c.in_ok-members.ensures c.requires.same_types }

pub returns : goal.returns
returns c = of_program (types_in c.args.program.now) _ c.args.named.now.id c.args.setting c.in_ok-found.found
    (types_are (types_in c.args.program.now) c.in_ok-members.members c.args.named.now.types c.in_ok-members.ensures c.requires.same_types) c.in_ok-found.ensures
