use Rattle.std.proofs.Common.{refl}
use Rattle.command_words.specs.Texts.{verify_help}
use Rattle.command_words.proofs.texts.verify_help.Goals as goal

pub returns : goal.returns
unfolding verify_help
returns c = refl
