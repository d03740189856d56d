use Rattle.std.proofs.Common.{◌∙◌, sym, ap}
use Rattle.std.specs.Prelude.{option_copied}
use Rattle.name_scope.specs.FileNumbers.{AddedFile}
use Rattle.source_scenes.proofs.Named.{asked_of_main}
use Rattle.source_scenes.proofs.refusals.no_scenario.Goals as goal

pub unreachable-requires : goal.unreachable-requires
unreachable-requires c = asked_of_main (λ (f : AddedFile). f.name) c.args.program.now c.requires (ap option_copied (sym c.in_default.is) ∙ c.name.ensures.name)
