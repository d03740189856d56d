use Rattle.std.proofs.Common.{refl}
use Rattle.command_words.specs.Texts.{flat_help}
use Rattle.command_words.proofs.texts.flat_help.Goals as goal

pub returns : goal.returns
unfolding flat_help
returns c = refl
