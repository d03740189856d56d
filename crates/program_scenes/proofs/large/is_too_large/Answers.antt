use Rattle.std.proofs.Common.{◌∙◌, ap}
use Rattle.named_scenario.specs.composition.SceneFaults.{is_too_large}
use Rattle.named_scenario.specs.Naming.{types_in}
use Rattle.named_scenario.specs.type_heads.Types.{Types}
use Rattle.program_scenes.proofs.SameTypes.{told_are, types_are}
use Rattle.program_scenes.proofs.large.is_too_large.Goals as goal

pub is_large_among-requires : goal.is_large_among-requires
is_large_among-requires c = record { built = told_are (types_in c.args.program.now) c.in_ok-members.members c.args.named.now.types c.in_ok-members.ensures c.requires.same_types }

pub returns : goal.returns
returns c =
    c.in_ok-large.ensures
    ∙ ap (λ (ts : Types). is_too_large ts c.args.named.now.id c.args.setting)
    (types_are (types_in c.args.program.now) c.in_ok-members.members c.args.named.now.types c.in_ok-members.ensures c.requires.same_types)
