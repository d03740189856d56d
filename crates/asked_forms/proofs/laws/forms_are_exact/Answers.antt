use Rattle.asked_forms.proofs.Asked.{forms}
use Rattle.asked_forms.proofs.laws.forms_are_exact.Goals as goal

pub returns : goal.returns
returns c = forms
