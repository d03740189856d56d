use Rattle.form_answers.proofs.Meaning.{yes_means_none}
use Rattle.form_answers.proofs.laws.yes_means_none.Goals as goal

pub returns : goal.returns
returns c = yes_means_none
