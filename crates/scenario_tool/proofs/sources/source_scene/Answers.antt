use Rattle.scenario_tool.proofs.LoadedSources.{refused_found, scene_found, stop_found}
use Rattle.scenario_tool.proofs.sources.source_scene.Goals as goal

pub returns-in-Err-clause-found : goal.returns-in-Err-clause-found
returns-in-Err-clause-found g c = stop_found (g.H.Shelf.files c.args.shelf.now) _ c.args.source.file.now _ _ _ c.in-Err.stop c.in_ok-reply_to_stop-in-Err.field-0
    c.in-Err.ensures.answer c.in-Err.ensures.counts c.in_ok-reply_to_stop-in-Err.ensures

pub returns-in-Scene-clause-found : goal.returns-in-Scene-clause-found
returns-in-Scene-clause-found g c = scene_found (g.H.Shelf.files c.args.shelf.now) _ _ c.args.source.scenario.now _ _ c.in-Ok.program c.in-Ok.ensures.answer c.in-Ok.ensures.counts
    c.scene_setting.result c.scene_setting.ensures c.in-Scene.scene (rw c.in-Scene.is at c.in_ok-scene.ensures)

pub returns-in-Refused-clause-found : goal.returns-in-Refused-clause-found
returns-in-Refused-clause-found g c = refused_found (g.H.Shelf.files c.args.shelf.now) _ _ c.args.source.scenario.now _ _ c.in-Ok.program c.in-Ok.ensures.answer c.in-Ok.ensures.counts
    c.scene_setting.result c.scene_setting.ensures c.in-Refused.reply (rw c.in-Refused.is at c.in_ok-scene.ensures)
