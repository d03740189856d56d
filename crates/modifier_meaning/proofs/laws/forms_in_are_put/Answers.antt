use Rattle.modifier_meaning.proofs.PutLaws.{forms_in_are_put}
use Rattle.modifier_meaning.proofs.laws.forms_in_are_put.Goals as goal

pub returns : goal.returns
returns c = forms_in_are_put
