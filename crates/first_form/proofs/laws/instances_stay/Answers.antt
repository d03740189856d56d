use Rattle.first_form.proofs.SameMeaning.{instance_same}
use Rattle.first_form.proofs.laws.instances_stay.Goals as goal

pub returns : goal.returns
returns c = instance_same
