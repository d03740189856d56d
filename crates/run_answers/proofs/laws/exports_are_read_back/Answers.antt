use Rattle.run_answers.proofs.PlainRuns.{export_back}
use Rattle.run_answers.proofs.laws.exports_are_read_back.Goals as goal

pub returns : goal.returns
returns c = export_back
