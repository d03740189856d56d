use Rattle.std.proofs.Common.{refl}
use Rattle.command_words.specs.Texts.{generate_help}
use Rattle.command_words.proofs.texts.generate_help.Goals as goal

pub returns : goal.returns
unfolding generate_help
returns c = refl
