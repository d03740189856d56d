use Rattle.command_words.specs.Seen.{verified_by}
use Rattle.scenario_tool.specs.Settings.{scene_setting}
use Rattle.scenario_tool.proofs.Replied.{verify_refused, verify_reply, scene_counted}
use Rattle.scenario_tool.proofs.commands.reply_to_verify.Goals as goal

pub returns-in-Scene-clause-reply : goal.returns-in-Scene-clause-reply
returns-in-Scene-clause-reply g c = verify_reply (g.H.Shelf.files c.args.shelf.now) _ _ _ c.in-Scene._program c.in-Scene.scene (verified_by c.args.asked) _ c.verify.result
    c.in_ok-_program.ensures.files_kept (rw c.in-Scene.is at c.in_ok-_program.ensures.found) c.verify.ensures.reply

pub returns-in-Scene-clause-counted : goal.returns-in-Scene-clause-counted
returns-in-Scene-clause-counted g c = scene_counted (g.H.Shelf.files c.args.shelf.now) (scene_setting c.args.asked.setting) c.args.asked.source.file.now c.args.asked.source.scenario.now _ _ _ c.in-Scene._program c.in-Scene.scene (rw c.in-Scene.is at c.in_ok-_program.ensures.found) c.verify.ensures.counted

pub returns-in-Refused-clause-reply : goal.returns-in-Refused-clause-reply
returns-in-Refused-clause-reply g c = verify_refused (g.H.Shelf.files c.args.shelf.now) _ _ c.in-Refused.reply (verified_by c.args.asked) (rw c.in-Refused.is at c.in_ok-_program.ensures.found)
