use Rattle.scenario_tool.proofs.MadeSources.{refused_made, scene_made}
use Rattle.scenario_tool.proofs.made.make.Goals as goal

pub returns-in-Scene : goal.returns-in-Scene
returns-in-Scene c = scene_made c.args.count c.args.program.now c.made_setting.result c.made_setting.ensures c.in-Scene.scene c.make_run.result
    (rw c.in-Scene.is at c.in_ok-scene.ensures) c.make_run.ensures

pub returns-in-Refused : goal.returns-in-Refused
returns-in-Refused c = refused_made c.args.count c.args.program.now c.made_setting.result c.made_setting.ensures c.in-Refused.reply (rw c.in-Refused.is at c.in_ok-scene.ensures)
