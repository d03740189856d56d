use Rattle.std.proofs.Common.{refl}
use Rattle.program_texts.specs.SeenTexts.{types_in}
use Rattle.text_constraints.proofs.LabelSteps.{labelled}
use Rattle.text_constraints.proofs.members.text_labels.Goals as goal

pub returns : goal.returns
returns c = labelled (types_in c.args.texts.now) c.args.holder _ refl c.in_ok-labels.ensures
