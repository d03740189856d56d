use Rattle.std.proofs.Common.{refl}
use Rattle.command_words.specs.Texts.{migrate_help}
use Rattle.command_words.proofs.texts.migrate_help.Goals as goal

pub returns : goal.returns
unfolding migrate_help
returns c = refl
