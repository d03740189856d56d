use Rattle.form_answers.proofs.SomeText.{some_verdict}
use Rattle.form_answers.proofs.laws.some_verdict.Goals as goal

pub returns : goal.returns
returns c = some_verdict
