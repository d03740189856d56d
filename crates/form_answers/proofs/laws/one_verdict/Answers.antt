use Rattle.form_answers.proofs.OneText.{one_verdict}
use Rattle.form_answers.proofs.laws.one_verdict.Goals as goal

pub returns : goal.returns
returns c = one_verdict
