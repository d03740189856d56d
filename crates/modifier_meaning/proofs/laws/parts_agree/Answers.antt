use Rattle.modifier_meaning.proofs.Parts.{parts_agree}
use Rattle.modifier_meaning.proofs.laws.parts_agree.Goals as goal

pub returns : goal.returns
returns c = parts_agree
