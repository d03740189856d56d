use Rattle.std.proofs.Common.{refl}
use Rattle.command_words.specs.Texts.{make_help}
use Rattle.command_words.proofs.texts.make_help.Goals as goal

pub returns : goal.returns
unfolding make_help
returns c = refl
