use Rattle.std.proofs.Common.{refl}
use Rattle.command_words.specs.Texts.{export_help}
use Rattle.command_words.proofs.texts.export_help.Goals as goal

pub returns : goal.returns
unfolding export_help
returns c = refl
