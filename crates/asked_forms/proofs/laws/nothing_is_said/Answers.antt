use Rattle.asked_forms.proofs.Asked.{said_nothing}
use Rattle.asked_forms.proofs.laws.nothing_is_said.Goals as goal

pub returns : goal.returns
returns c = said_nothing
