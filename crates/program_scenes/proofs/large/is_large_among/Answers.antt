use Rattle.std.proofs.Common.{◌∙◌, ap}
use Rattle.named_scenario.specs.composition.SceneFaults.{is_too_large}
use Rattle.named_scenario.specs.type_heads.Types.{Types}
use Rattle.program_scenes.proofs.large.is_large_among.Goals as goal

pub returns : goal.returns
returns c = c.in_ok-past.ensures ∙ ap (λ (ts : Types). is_too_large ts c.args.of c.args.setting) c.in_ok-layout.ensures
