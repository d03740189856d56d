use Rattle.asked_forms.proofs.LessRules.{added_flat}
use Rattle.asked_forms.proofs.forms.added_is_flat.Goals as goal

pub returns : goal.returns
returns c = added_flat
