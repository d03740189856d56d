use Rattle.std.proofs.Common.{◌∙◌, ◌++◌, ◌<◌, ap, arith, map}
use Rattle.program_texts.specs.composition.SeenParts.{seen_occurrence}
use Rattle.program_texts.specs.composition.SeenScenes.{seen_scene}
use Rattle.program_texts.specs.SeenTexts.{types_in}
use Rattle.text_constraints.proofs.KeptTexts.{own_some}
use Rattle.text_constraints.proofs.members.push_own.Goals as goal

pub returns : goal.returns
returns c =
    let ts = types_in c.args.texts.now in
    let bindings = (seen_scene c.args.standing.now.scene.now).bindings in
    let object = c.args.standing.now.object.now in
    let of = c.args.standing.now.of in
    let old = map seen_occurrence c.args.into.now.items in
    let some : 0 < c.args.steps = grind (arith, c.if-steps-eq0.false) in
    c.in_ok-push_parts.ensures ∙ ap (λ os. old ++ os) (own_some c.args.steps ts bindings object of some)
