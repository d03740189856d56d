use Rattle.dsl_tree.specs.Views.{compound_tree}
use Rattle.source_scenes.proofs.Large.{past, within}
use Rattle.source_scenes.proofs.scenes.scene_of_named.Goals as goal

pub returns-in-Some : goal.returns-in-Some
returns-in-Some c =
    let found = rw c.in-Some.is at c.in_ok-scene.ensures in
    within c.args.program.now c.args.setting c.args.named.now.id c.in-Some.scene c.requires.known found.0 found.1

pub returns-in_ok-reply-in-None : goal.returns-in_ok-reply-in-None
returns-in_ok-reply-in-None c = past c.args.program.now c.args.setting c.args.named.now.id (compound_tree c.args.named.now.declaration.now) c.name_place-place.result
    c.in_ok-reply-in-None.reply c.requires.declared (rw c.in-None.is at c.in_ok-scene.ensures) c.name_place-place.ensures c.in_ok-reply-in-None.ensures
