use Rattle.source_scenes.proofs.Named.{found_named, found_none}
use Rattle.source_scenes.proofs.scenes.scene_in.Goals as goal

pub returns-in-Ok : goal.returns-in-Ok
returns-in-Ok c = found_named c.args.program.now c.args.setting c.args.word.now _ _ c.in-Ok.named c.scene_of_named.result
    c.owner_and_name.ensures.owner c.owner_and_name.ensures.name c.in-Ok.ensures.named c.scene_of_named.ensures

pub returns-in_ok-no_scenario-in-Err-Absent : goal.returns-in_ok-no_scenario-in-Err-Absent
returns-in_ok-no_scenario-in-Err-Absent c =
    let none = rw c.in-Err-Absent.field-0-is at c.in-Err-Absent.ensures.stop in
    found_none c.args.program.now c.args.setting c.args.word.now _ _ c.in_ok-no_scenario-in-Err-Absent.field-0 c.owner_and_name.ensures.owner c.owner_and_name.ensures.name
    none.0 none.1 c.in_ok-no_scenario-in-Err-Absent.ensures
