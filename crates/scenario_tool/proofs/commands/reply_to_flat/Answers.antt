use Rattle.command_words.specs.Seen.{flattened_by}
use Rattle.scenario_tool.proofs.Replied.{flat_refused, flat_reply}
use Rattle.scenario_tool.proofs.commands.reply_to_flat.Goals as goal

pub returns-in-Scene-clause-reply : goal.returns-in-Scene-clause-reply
returns-in-Scene-clause-reply g c = flat_reply (g.H.Shelf.files c.args.shelf.now) _ 0 _ c.in-Scene.program c.in-Scene.scene (flattened_by c.args.asked) c.flat.result
    (rw c.in-Scene.is at c.in_ok-program.ensures.found) c.flat.ensures

pub returns-in-Refused-clause-reply : goal.returns-in-Refused-clause-reply
returns-in-Refused-clause-reply g c = flat_refused (g.H.Shelf.files c.args.shelf.now) _ _ c.in-Refused.reply (flattened_by c.args.asked) (rw c.in-Refused.is at c.in_ok-program.ensures.found)
