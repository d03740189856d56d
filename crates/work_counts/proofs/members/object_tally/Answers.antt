use Rattle.std.proofs.Common.{◌∙◌, ◌<◌, ap, arith}
use Rattle.program_texts.specs.SeenTexts.{types_in}
use Rattle.work_counts.specs.Amounts.{kept}
use Rattle.work_counts.proofs.TextLaws.{own_some}
use Rattle.work_counts.proofs.members.object_tally.Goals as goal

pub returns : goal.returns
returns c = λ path.
    let some : 0 < c.args.steps = grind (arith, c.if-steps-eq0.false) in
    c.parts_tally.ensures ∙ ap kept (own_some c.args.steps (types_in c.args.texts.now) path c.args.of some)
