use Rattle.work_parts.specs.program_texts.SeenTexts.{types_with}
use Rattle.program_scenes.proofs.SceneFound.{laid_out}
use Rattle.program_scenes.proofs.scenes.scene_among.Goals as goal

pub returns : goal.returns
returns c = laid_out (types_with c.args.members.now c.args.types.now.table) _ c.args.of c.args.setting c.in_ok-found.found c.in_ok-layout.ensures c.in_ok-found.ensures
