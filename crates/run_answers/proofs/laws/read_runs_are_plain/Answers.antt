use Rattle.run_answers.proofs.PlainRuns.{read_plain}
use Rattle.run_answers.proofs.laws.read_runs_are_plain.Goals as goal

pub returns : goal.returns
returns c = read_plain
