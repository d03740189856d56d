use Rattle.modifier_meaning.proofs.PutLaws.{typed_in_is_put}
use Rattle.modifier_meaning.proofs.laws.typed_in_is_put.Goals as goal

pub returns : goal.returns
returns c = typed_in_is_put
