use Rattle.std.proofs.Common.{refl}
use Rattle.command_words.specs.Texts.{check_help}
use Rattle.command_words.proofs.texts.check_help.Goals as goal

pub returns : goal.returns
unfolding check_help
returns c = refl
