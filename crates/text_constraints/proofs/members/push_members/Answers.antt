use Rattle.std.proofs.Common.{◌++◌, flat_map, map, refl}
use Rattle.program_texts.specs.composition.SeenParts.{seen_occurrence}
use Rattle.program_texts.specs.composition.SeenScenes.{seen_scene}
use Rattle.program_texts.specs.SeenTexts.{types_in}
use Rattle.expr_nodes.specs.type_heads.Types.{Member}
use Rattle.program_texts.specs.type_members.Listed.{seen_listed}
use Rattle.program_texts.specs.type_members.Shared.{under_inside}
use Rattle.text_constraints.specs.OwnTexts.{listed_kept}
use Rattle.text_constraints.proofs.LabelSteps.{self_labelled}
use Rattle.text_constraints.proofs.ListSteps.{each_more}
use Rattle.text_constraints.proofs.members.push_members.Goals as goal

pub loop-listed-init : goal.loop-listed-init
loop-listed-init c = (self_labelled (types_in c.args.texts.now) c.args.standing.now.of c.in_ok-labels.labels c.in_ok-labels.ensures, refl)

pub loop-listed-preserved : goal.loop-listed-preserved
loop-listed-preserved c =
    let ts = types_in c.args.texts.now in
    let give = λ (m : Member). listed_kept ts (seen_scene c.args.standing.now.scene.now).bindings c.args.standing.now.object.now c.args.standing.now.of (under_inside c.args.inside m) in
    let made = c.in_ok-labels-2.ensures c.loop-listed.invariant.0 in (
      self_labelled ts c.listed-item.result.holder c.in_ok-labels-2.labels made,
      each_more give seen_listed c.args.members.now c.loop-listed.listed-index c.listed-item.result (map seen_occurrence c.loop-listed.into.items) (map seen_occurrence c.push_labelled.new.into.items)
          (map seen_occurrence c.args.into.now.items ++ flat_map give (map seen_listed c.args.members.now)) c.loop-listed-test.true c.listed-item.is (c.in_ok-push_labelled.ensures made) c.loop-listed.invariant.1,
    )
