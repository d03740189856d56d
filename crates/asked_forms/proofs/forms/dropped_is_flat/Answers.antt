use Rattle.asked_forms.proofs.LessRules.{dropped_flat}
use Rattle.asked_forms.proofs.forms.dropped_is_flat.Goals as goal

pub returns : goal.returns
returns c = dropped_flat
