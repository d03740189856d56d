use Rattle.std.proofs.Common.{◌≡◌, refl}
use Rattle.command_words.specs.Seen.{exported_by}
use Rattle.scenario_tool.specs.Settings.{scene_setting}
use Rattle.scenario_tool.proofs.Replied.{export_refused, export_reply, scene_counted}
use Rattle.scenario_tool.proofs.commands.reply_to_export.Goals as goal

pub returns-in-Scene-clause-reply : goal.returns-in-Scene-clause-reply
returns-in-Scene-clause-reply g c = export_reply (g.H.Shelf.files c.args.shelf.now) _ _ _ c.in-Scene.program c.in-Scene.scene (exported_by c.args.asked) _ c.export.result
    c.in_ok-program.ensures.files_kept (rw c.in-Scene.is at c.in_ok-program.ensures.found)
    (rw (c.export_style.ensures.form, c.export_style.ensures.road, c.export_style.ensures.left) at c.export.ensures.reply)

pub returns-in-Scene-clause-counted : goal.returns-in-Scene-clause-counted
returns-in-Scene-clause-counted g c = scene_counted (g.H.Shelf.files c.args.shelf.now) (scene_setting c.args.asked.setting) c.args.asked.source.file.now c.args.asked.source.scenario.now _ _ _ c.in-Scene.program c.in-Scene.scene (rw c.in-Scene.is at c.in_ok-program.ensures.found) c.export.ensures.counted

pub returns-in-Refused-clause-reply : goal.returns-in-Refused-clause-reply
returns-in-Refused-clause-reply g c = export_refused (g.H.Shelf.files c.args.shelf.now) _ _ c.in-Refused.reply (exported_by c.args.asked) (rw c.in-Refused.is at c.in_ok-program.ensures.found)
