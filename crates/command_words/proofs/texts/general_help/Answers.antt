use Rattle.std.proofs.Common.{refl}
use Rattle.command_words.specs.Texts.{general_help}
use Rattle.command_words.proofs.texts.general_help.Goals as goal

pub returns : goal.returns
unfolding general_help
returns c = refl
