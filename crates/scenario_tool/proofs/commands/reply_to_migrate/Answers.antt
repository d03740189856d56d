use Rattle.command_words.specs.Seen.{migrated_by}
use Rattle.scenario_tool.proofs.Replied.{migrate_reply}
use Rattle.scenario_tool.proofs.commands.reply_to_migrate.Goals as goal

pub returns-clause-reply : goal.returns-clause-reply
returns-clause-reply g c = migrate_reply (g.H.Shelf.files c.args.shelf.now) (migrated_by c.args.asked) _ _ c.migrate.result c.migrate.ensures.reply
