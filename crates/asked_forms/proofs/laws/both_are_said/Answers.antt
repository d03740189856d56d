use Rattle.asked_forms.proofs.Asked.{said_both}
use Rattle.asked_forms.proofs.laws.both_are_said.Goals as goal

pub returns : goal.returns
returns c = said_both
