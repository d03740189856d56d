use Rattle.form_answers.proofs.Meaning.{refuted_means_none}
use Rattle.form_answers.proofs.laws.refuted_means_none.Goals as goal

pub returns : goal.returns
returns c = refuted_means_none
