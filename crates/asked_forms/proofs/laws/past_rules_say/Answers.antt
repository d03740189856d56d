use Rattle.asked_forms.proofs.Others.{past_say}
use Rattle.asked_forms.proofs.laws.past_rules_say.Goals as goal

pub returns : goal.returns
returns c = past_say
