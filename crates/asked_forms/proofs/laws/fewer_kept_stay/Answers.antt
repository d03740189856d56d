use Rattle.asked_forms.proofs.Asked.{fewer_stay}
use Rattle.asked_forms.proofs.laws.fewer_kept_stay.Goals as goal

pub returns : goal.returns
returns c = fewer_stay
