use Rattle.modifier_meaning.proofs.NothingUnfolded.{nothing_to_unfold}
use Rattle.modifier_meaning.proofs.laws.nothing_to_unfold.Goals as goal

pub returns : goal.returns
returns c = nothing_to_unfold
