use Rattle.command_words.specs.Seen.{asked_by}
use Rattle.scenario_tool.proofs.Replied.{generate_refused, generate_reply}
use Rattle.scenario_tool.proofs.commands.reply_to_generate.Goals as goal

pub returns-in-Scene-clause-reply : goal.returns-in-Scene-clause-reply
returns-in-Scene-clause-reply g c = generate_reply (g.H.Shelf.files c.args.shelf.now) _ 0 _ c.in-Scene._program c.in-Scene.scene (asked_by c.args.asked) c.generate.result
    (rw c.in-Scene.is at c.in_ok-_program.ensures.found) c.generate.ensures

pub returns-in-Refused-clause-reply : goal.returns-in-Refused-clause-reply
returns-in-Refused-clause-reply g c = generate_refused (g.H.Shelf.files c.args.shelf.now) _ _ c.in-Refused.reply (asked_by c.args.asked) (rw c.in-Refused.is at c.in_ok-_program.ensures.found)
