use Rattle.first_form.proofs.SameMeaning.{text_same}
use Rattle.first_form.proofs.laws.first_runs_stay.Goals as goal

pub returns : goal.returns
returns c = text_same
