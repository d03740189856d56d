use Rattle.modifier_meaning.proofs.Expansions.{expansions_agree}
use Rattle.modifier_meaning.proofs.laws.expansions_agree.Goals as goal

pub returns : goal.returns
returns c = expansions_agree
