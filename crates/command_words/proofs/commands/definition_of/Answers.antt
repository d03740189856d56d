use Rattle.command_words.specs.Words.{check, flat, verify}
use Rattle.command_words.proofs.commands.definition_of.Goals as goal

pub returns-in-Check : goal.returns-in-Check
unfolding check
returns-in-Check c = rw c.in-Check.is c.file_command.ensures

pub returns-in-Verify : goal.returns-in-Verify
unfolding verify
returns-in-Verify c = rw c.in-Verify.is c.file_command-in-Verify.ensures

pub returns-in-Flat : goal.returns-in-Flat
unfolding flat
returns-in-Flat c = rw c.in-Flat.is c.scene_command.ensures
