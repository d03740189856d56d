use Rattle.asked_forms.proofs.Asked.{all_kept_is}
use Rattle.asked_forms.proofs.laws.all_kept_is_instance.Goals as goal

pub returns : goal.returns
returns c = all_kept_is
